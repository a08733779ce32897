-- `reader::judge_texts` meets its contract. Assumes nothing.
use Rattle.reader.proofs.Judging.{none-again-of, judged-no, site-bad, met-again, raster-lacks, texts-judged}
use Rattle.reader.proofs.judge_texts.Goals as goal

pub returns-then-has_bad_site : goal.returns-then-has_bad_site
returns-then-has_bad_site c = rw c.refused.ensures (judged-no _ _ (site-bad _ _ _ _ _ _ _ _ _ c.has_bad_site.ensures c.if-has_bad_site.true))

pub returns-then-again-ne0 : goal.returns-then-again-ne0
returns-then-again-ne0 c = rw c.refused-then-again-ne0.ensures (judged-no _ _ (met-again _ _ _ _ _ _ _ _ _ c.has_bad_site.ensures c.if-has_bad_site.false _ c.first_duplicate-again.ensures c.if-again-ne0.true))

pub returns-then-is_lacking : goal.returns-then-is_lacking
returns-then-is_lacking c = rw c.refused-then-is_lacking.ensures (judged-no _ _ (raster-lacks _ _ _ _ _ _ _ _ _ c.has_bad_site.ensures c.if-has_bad_site.false _ c.first_duplicate-again.ensures c.if-again-ne0.false _ c.rasters-rasters.ensures _ c.is_lacking.ensures c.if-is_lacking.true))

pub judge_rows-requires : goal.judge_rows-requires
judge_rows-requires c = let pre = c.requires in
    record { none_again = none-again-of _ _ _ pre.n_in_bounds c.first_duplicate-again.ensures c.if-again-ne0.false; file_value = pre.file_value; shapes_value = pre.shapes_value }

pub returns : goal.returns
returns c = texts-judged _ _ _ _ _ _ _ _ _ c.has_bad_site.ensures c.if-has_bad_site.false _ c.first_duplicate-again.ensures c.if-again-ne0.false _ c.rasters-rasters.ensures _ c.is_lacking.ensures c.if-is_lacking.false c.judge_rows.ensures
