-- `quadrature::capped` meets its contract: what is left to choose among is always what the first order's choice was.
use Rattle.std.proofs.Common.{◌≡◌, Some, Result, Err, refl, sym, ap, ◌∙◌, rules}
use Rattle.quadrature.specs.declared.orders.Order.{Order}
use Rattle.quadrature.specs.declared.orders.Decline.{Decline}
use Rattle.quadrature.specs.Orders.{capped_from}
use Rattle.quadrature.proofs.Chosen.{first_here, first_below, first_none, lower_falls, found_lower, no_lower, size_from, size_to}
use Rattle.quadrature.proofs.orders.capped.Goals.{In_ok-at}
use Rattle.quadrature.proofs.orders.capped.Goals as goal

next : (c : In_ok-at) → c.next_lower.result ≡ Some c.in_ok-at.at
next c = found_lower _ _ (sym c.ok_or.ensures.value ∙ c.in_ok-at.was)

pub loop-at-init : goal.loop-at-init
unfolding capped_from
loop-at-init c = refl

pub within_cap-requires : goal.within_cap-requires
within_cap-requires c = rw c.order_size.ensures (size_from _, size_to _, c.requires)

pub returns-in_err-at : goal.returns-in_err-at
returns-in_err-at c =
    let tested = sym c.within_cap.ensures ∙ c.loop-at-test.true in
    let e : ◌≡◌ {A = Result Order Decline} c.from_residual.result (Err c.in_err-at.field-0.0) = search rules in
    let none = no_lower _ _ (sym c.ok_or.ensures.value ∙ c.in_err-at.was) in
    e ∙ ap Err none.1 ∙ sym (first_none _ _ _ (rw c.order_size.ensures at tested) (sym c.next_lower.ensures ∙ none.0)) ∙ c.loop-at.invariant

pub loop-at-smaller : goal.loop-at-smaller
loop-at-smaller c = lower_falls _ _ (sym c.next_lower.ensures ∙ next c)

pub loop-at-preserved : goal.loop-at-preserved
loop-at-preserved c =
    let tested = sym c.within_cap.ensures ∙ c.loop-at-test.true in
    sym (first_below _ _ _ _ (rw c.order_size.ensures at tested) (sym c.next_lower.ensures ∙ next c)) ∙ c.loop-at.invariant

pub returns : goal.returns
returns c =
    let tested = sym c.within_cap.ensures ∙ c.loop-at-test.false in
    sym (first_here _ _ _ (rw c.order_size.ensures at tested)) ∙ c.loop-at.invariant
