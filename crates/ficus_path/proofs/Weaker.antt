-- A clause on `None`, weakened.
use Rattle.std.proofs.Common.{Option, Some, None, IfNone}

pub IfNone-weaker : {T : Type 0} (r : Option T) (P Q : Type 0) → (P → Q) → IfNone r P → IfNone r Q
IfNone-weaker None P Q weaker h = weaker h
IfNone-weaker (Some x) P Q weaker h = h
