-- One answer, and one content of every lent slice: the contract of `glmm::fit` is an equation with `call_of`. Assumes nothing.
use mathlib.Core.Path.{◌≡◌, ap}
use Rattle.base.proofs.Unique.{one_value}
use Rattle.model.specs.declared.ends.Answer.{Answer}
use Rattle.model.specs.declared.sizes.Shape.{Shape}
use Rattle.model.specs.declared.sizes.Settings.{Settings}
use Rattle.model.specs.Inputs.{Inputs}
use Rattle.call.specs.Call.{Lent, Left, left, call_of}

-- `fit`
pub fit_unique : (t : Settings) (s : Shape) (I : Inputs) (L : Lent) (a b : Answer) (A B : Lent) → left a A ≡ call_of t s I L → left b B ≡ call_of t s I L → (a ≡ b) × (A ≡ B)
fit_unique t s I L a b A B d e =
    let same : left a A ≡ left b B = one_value d e in
    (ap (λ (x : Left). x.answer) same, ap (λ (x : Left). x.lent) same)
