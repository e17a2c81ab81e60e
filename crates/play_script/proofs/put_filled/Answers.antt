-- `play_script::put_filled` meets its contract: 95 places are room for its rows.
use Rattle.play_script.proofs.Laid.{laid_none, laid_more}
use Rattle.play_script.proofs.put_filled.Goals as goal

pub returns : goal.returns
returns c =
    laid_more _ _ _ _ _ _ c.lay.ensures
    (laid_more _ _ _ _ _ _ c.lay-2.ensures
    (laid_more _ _ _ _ _ _ c.lay-3.ensures
    (laid_more _ _ _ _ _ _ c.lay-4.ensures
    (laid_more _ _ _ _ _ _ c.lay-5.ensures
    (laid_more _ _ _ _ _ _ c.lay-6.ensures (laid_none _ _))))))
