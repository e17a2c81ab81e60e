-- `recording::header::header_fits` meets its contract: each return answers for one section, those before it being as they should.
use mathlib.Core.Path.{sym, ◌∙◌}
use Rattle.dstree.specs.Recording.{rate_in, size_in}
use Rattle.recording.proofs.Begins.{sections}
use Rattle.recording.proofs.header.header_fits.Goals as goal

pub returns-then-not-riff_fits : goal.returns-then-not-riff_fits
returns-then-not-riff_fits c =
    let b = c.args.bytes.now in
    sym (sections (rate_in b) (size_in b) b ∙ simp (sym c.riff_fits.ensures ∙ c.if-not-riff_fits.true))

pub returns-then-not-format_fits : goal.returns-then-not-format_fits
returns-then-not-format_fits c =
    let b = c.args.bytes.now in
    sym (sections (rate_in b) (size_in b) b
    ∙ simp (sym c.riff_fits.ensures ∙ c.if-not-riff_fits.false, sym c.format_fits.ensures ∙ c.if-not-format_fits.true))

pub returns-then-not-rates_fit : goal.returns-then-not-rates_fit
returns-then-not-rates_fit c =
    let b = c.args.bytes.now in
    sym (sections (rate_in b) (size_in b) b
    ∙ simp (sym c.riff_fits.ensures ∙ c.if-not-riff_fits.false, sym c.format_fits.ensures ∙ c.if-not-format_fits.false, sym c.rates_fit.ensures ∙ c.if-not-rates_fit.true))

pub returns : goal.returns
returns c =
    let b = c.args.bytes.now in
    c.data_fits.ensures ∙ sym (sections (rate_in b) (size_in b) b
    ∙ simp (sym c.riff_fits.ensures ∙ c.if-not-riff_fits.false, sym c.format_fits.ensures ∙ c.if-not-format_fits.false, sym c.rates_fit.ensures ∙ c.if-not-rates_fit.false))
