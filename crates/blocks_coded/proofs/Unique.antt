-- One answer, and one content of every lent slice: the contract of `fit_coded` is an equation with `fit_blocks_of`. Assumes nothing.
use mathlib.Core.Path.{◌≡◌, ap}
use Rattle.base.proofs.Unique.{one_value}
use Rattle.call.specs.Call.{Lent}
use Rattle.blocks_coded.specs.Plain.{Shown, shown}
use Rattle.blocks_coded.specs.declared.PlainAnswer.{PlainAnswer}

-- `fit_coded` with fit_blocks_of for t
pub shown_unique : (t : Shown) (a b : PlainAnswer) (A B : Lent) → shown a A ≡ t → shown b B ≡ t → (a ≡ b) × (A ≡ B)
shown_unique t a b A B d e =
    let same : shown a A ≡ shown b B = one_value d e in
    (ap (λ (x : Shown). x.returned) same, ap (λ (x : Shown). x.lent) same)
