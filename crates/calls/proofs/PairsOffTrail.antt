-- Samples off both trails do not bear on a match over two libraries, of whatever tables it takes. No condition and no node is read from a
-- sample, and the traces in the leaves that are read are the same.
use mathlib.Core.Path.{◌≡◌, sym, ap₂, subst, ◌∙◌}
use mathlib.Core.Option.{none}
use lib.ListN.{length}
use Rattle.dstree.specs.Refusals.{first_of}
use Rattle.dstree.specs.Pair.{Indexed, indexed, of_factory, PairMatch, pair_rest, paired_with, pair_by_steps}
use Rattle.dstree.specs.Book.{pairing, pair_beside, beside_of}
use Rattle.dstree.proofs.PairRead.{pair_steps}
use Rattle.tables.specs.Tables.{Tables}
use Rattle.tables.specs.View.{tree_in, traces_in}
use Rattle.tables.specs.Beginning.{first_places}
use Rattle.tables.specs.Answers.{made_conditions}
use Rattle.tables.proofs.Views.{traces_size}
use Rattle.tables.proofs.Judged.{Accepted, accepted}
use Rattle.calls.specs.Outcome.{Effect, unless_refused}
use Rattle.calls.specs.Effects.{other_in, pairs, effect_of, outcome_on}
use Rattle.calls.specs.Trails.{DifferOutside}
use Rattle.calls.specs.Pairs.{PairCall, lent_library, pair_conditions_in, PairsOffTrail}
use Rattle.calls.proofs.OffTrail.{made_others, tree_others, also, also_is, as_many, all_same}
use Rattle.calls.proofs.Pairs.{said_by, outcome_f, said_is, fine_f, fine_b, known}

module _ (p : PairCall) (factory bench other_factory other_bench : Tables) (fine : first_of (pair_conditions_in p factory bench) ≡ none) where
  abbrev f : Tables
  f = first_places p.factory_lent factory

  abbrev b : Tables
  b = first_places p.bench_lent bench

  abbrev lf : Indexed
  lf = lent_library p.factory_lent factory

  abbrev lb : Indexed
  lb = lent_library p.bench_lent bench

  abbrev found : PairMatch
  found = pair_by_steps lf lb p.query

  ok_f : Accepted f
  ok_f = accepted f (fine_f p factory bench fine)

  ok_b : Accepted b
  ok_b = accepted b (fine_b p factory bench fine)

  module _ (differ_f : DifferOutside found.factory_trail factory other_factory) (differ_b : DifferOutside found.bench_trail bench other_bench) where
    -- what the call is lent of the others: these with other samples
    abbrev f' : Tables
    f' = also p.factory_lent ok_f differ_f

    abbrev b' : Tables
    b' = also p.bench_lent ok_b differ_b

    made_f : made_conditions f' ≡ made_conditions f
    made_f = made_others f f'.samples (as_many p.factory_lent ok_f differ_f)

    made_b : made_conditions b' ≡ made_conditions b
    made_b = made_others b b'.samples (as_many p.bench_lent ok_b differ_b)

    tree_f : tree_in f' ≡ tree_in f
    tree_f = tree_others f f'.samples (as_many p.factory_lent ok_f differ_f)

    tree_b : tree_in b' ≡ tree_in b
    tree_b = tree_others b b'.samples (as_many p.bench_lent ok_b differ_b)

    many_f : length (traces_in f') ≡ length (traces_in f)
    many_f = traces_size f' ∙ sym (traces_size f)

    many_b : length (traces_in b') ≡ length (traces_in b)
    many_b = traces_size b' ∙ sym (traces_size b)

    found_same : pair_by_steps (indexed (traces_in f') (tree_in f)) (indexed (traces_in b') (tree_in b)) p.query ≡ found
    found_same = (pair_steps lf lb p.query).off_trail (traces_in f') (traces_in b') (all_same p.factory_lent ok_f differ_f)
        (all_same p.bench_lent ok_b differ_b)

    abbrev effect : Tables → Tables → Effect
    effect own other = pairs own of_factory (other_in other p.bench_trail) p.query p.factory_trail

    conditions_same : first_of (effect f' b').conditions ≡ first_of (effect f b).conditions
    unfolding pairs pair_rest other_in
    conditions_same = rw (made_f, made_b, tree_f, tree_b, many_f, many_b)

    is_fine : first_of (effect f b).conditions ≡ none
    unfolding pairs pair_rest other_in
    is_fine = fine

    said_same : said_by (outcome_on (pairing of_factory (other_in b' p.bench_trail) p.query p.factory_trail) f')
        ≡ said_by (outcome_on (pairing of_factory (other_in b p.bench_trail) p.query p.factory_trail) f)
    unfolding outcome_on effect_of unless_refused beside_of pairs pair_beside paired_with other_in
    said_same = rw (conditions_same, is_fine, tree_f, tree_b, found_same)

    pub others_said : said_by (outcome_f p other_factory other_bench) ≡ said_by (outcome_f p factory bench)
    others_said =
        ap₂ (λ (own other : Tables). said_by (outcome_on (pairing of_factory (other_in other p.bench_trail) p.query p.factory_trail) own))
        (also_is p.factory_lent ok_f differ_f) (also_is p.bench_lent ok_b differ_b)
        ∙ said_same

pub pairs_off_trail : PairsOffTrail
pairs_off_trail p factory bench s follows m answers other_factory other_bench others differ_f differ_b also_follows =
    let k = known p factory bench s follows m answers in
    said_is p other_factory other_bench others also_follows
    ∙ (others_said p factory bench other_factory other_bench k.0
    (subst (λ (x : PairMatch). DifferOutside x.factory_trail factory other_factory) (sym k.1) differ_f)
    (subst (λ (x : PairMatch). DifferOutside x.bench_trail bench other_bench) (sym k.1) differ_b)
    ∙ sym (said_is p factory bench s follows))
