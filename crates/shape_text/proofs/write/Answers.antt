-- `shape_text::write` meets its contract: a law for each of its four returns. Assumes nothing.
use mathlib.Core.Path.{◌∙◌, sym}
use native.Mathlib.Omega.{arith}
use Rattle.shape_text.proofs.Samples.{writable-within}
use Rattle.shape_text.proofs.Outcome.{wrote-shape, wrote-output, wrote-text}
use Rattle.shape_text.proofs.write.Goals as goal

pub returns-then-not-is_writable : goal.returns-then-not-is_writable
returns-then-not-is_writable c =
    wrote-shape _ _ (sym c.is_writable.ensures ∙ c.if-not-is_writable.true) c.clear_bytes.ensures

pub put_shape-length-requires : goal.put_shape-length-requires
put_shape-length-requires c = writable-within _ (sym c.is_writable.ensures ∙ c.if-not-is_writable.false)

pub returns-then-out-length : goal.returns-then-out-length
returns-then-out-length c =
    wrote-output _ _ (sym c.is_writable.ensures ∙ c.if-not-is_writable.false) c.put_shape-length.ensures (omega arith) c.clear_bytes-then-out-length.ensures

pub returns-then-length-gt16777216 : goal.returns-then-length-gt16777216
returns-then-length-gt16777216 c =
    wrote-output _ _ (sym c.is_writable.ensures ∙ c.if-not-is_writable.false) c.put_shape-length.ensures (omega arith) c.clear_bytes-then-length-gt16777216.ensures

pub returns : goal.returns
returns c =
    wrote-text _ _ (sym c.is_writable.ensures ∙ c.if-not-is_writable.false) c.put_shape-length.ensures (omega arith) (omega arith) c.clear_bytes-2.ensures
