-- What is lent to the fit: the parts of arrays that are +0.0, and no beta where the results have no room; such a call is refused, so what is fitted has room. Assumes nothing.
use Rattle.family.specs.declared.carried.CarriedFamily.{CarriedFamily}
use Rattle.family.specs.declared.carried.CarriedLink.{CarriedLink}
use Rattle.std.specs.Prelude.{Result, Ok, Err}
use mathlib.Core.Path.{◌≡◌, refl, sym, ap, ◌∙◌}
use mathlib.Core.Bool.{Bool, true, false, cond}
use mathlib.Core.List.{List, ◌∷◌}
use Prim.Native.Nat.{ℕ, zero, suc, ◌+◌, ◌*◌, ◌-◌, ◌≤◌, ◌<◌}
use native.Mathlib.Nat.{mul-le-mul, not-suc-le-zero, le_of_suc-le-suc}
use native.Mathlib.Omega.{arith}
use borrow.Author.Tests.{le-leb, lt-leb, leb-true, eq-eqb, ne_eqb}
use lib.Dec.{leb}
use lib.Ieee.{Float}
use lib.ListN.{length, take, drop, replicate, length-replicate}
use Rattle.base.specs.Number.{zero_f}
use Rattle.model.specs.Answer.{refusal_number}
use Rattle.model.specs.declared.ends.Answer.{Answer}
use Rattle.model.specs.declared.ends.Refusal.{Refusal}
use Rattle.model.proofs.Answers.{refusal_range}
use Rattle.model.specs.declared.sizes.Shape.{Shape}
use Rattle.model.specs.declared.sizes.Settings.{Settings}
use Rattle.job.specs.Lists.{laid}
use Rattle.model.specs.Inputs.{Inputs, inputs}
use Rattle.table.specs.Table.{table_of}
use Rattle.table.specs.Facts.{Sound}
use Rattle.table.proofs.Accepting.{accepted_sound}
use Rattle.reader.specs.declared.whole.Header.{Header}
use Rattle.call.specs.Call.{Lent, lent, Left, left, lengths_of, call_of}
use Rattle.call.proofs.Leaves.{refused_left}
use Rattle.jobfit.specs.Done.{numbers_of, results_length, zeros, beta_length, lent_for, done, results_by, done_of, done_for}
use Rattle.jobfit.specs.Room.{SizesFew, fronts_of, numbers_length, RoomFor}

pub cells_few : (p : ℕ) → p ≤ 16 → p * p ≤ 256
cells_few p l = let h : p * p ≤ 16 * 16 = mul-le-mul {n₂ = 16} {m₂ = 16} l l in omega arith

-- ---- how much of beta is lent
module _ (t : Settings) (room asked : ℕ) (e : asked ≡ results_length t.n t.p t.rows) where
  pub beta_lent : asked ≤ room → t.p ≡ beta_length t room
  unfolding beta_length
  beta_lent l = let h : leb (results_length t.n t.p t.rows) room ≡ true = le-leb (results_length t.n t.p t.rows) room (rw (← e) l) in rw h refl

  pub beta_none : room < asked → 0 ≡ beta_length t room
  unfolding beta_length
  beta_none l = let h : leb (results_length t.n t.p t.rows) room ≡ false = lt-leb (results_length t.n t.p t.rows) room (rw (← e) l) in rw h refl

pub beta_few : (t : Settings) (room : ℕ) → t.p ≤ 16 → beta_length t room ≤ 16
unfolding beta_length
beta_few t room l = by (leb (results_length t.n t.p t.rows) room)
  where
    by : (b : Bool) → cond b t.p 0 ≤ 16
    by true = l
    by false = omega arith

-- where some of it is lent there is room for all numbers
pub some_lent : (t : Settings) (room : ℕ) → 1 ≤ beta_length t room → (beta_length t room ≡ t.p) × (results_length t.n t.p t.rows ≤ room)
unfolding beta_length
some_lent t room l = by (leb (results_length t.n t.p t.rows) room) refl l
  where
    by : (b : Bool) → leb (results_length t.n t.p t.rows) room ≡ b → 1 ≤ cond b t.p 0 → (cond b t.p 0 ≡ t.p) × (results_length t.n t.p t.rows ≤ room)
    by true e h = (refl, leb-true _ _ e)
    by false e h = absurd (not-suc-le-zero h)

-- ---- fronts of arrays that are +0.0
take_zeros : (n k : ℕ) → n ≤ k → take n (replicate k zero_f) ≡ zeros n
unfolding zeros
take_zeros zero k l = refl
take_zeros (suc n) zero l = absurd (not-suc-le-zero l)
take_zeros (suc n) (suc k) l = ap (λ (xs : List Float). zero_f ∷ xs) (take_zeros n k (le_of_suc-le-suc l))

pub zeros_front : (n k : ℕ) → n ≤ k → take (n - 0) (drop 0 (replicate k zero_f)) ≡ zeros n
zeros_front n k l = let e : n - 0 ≡ n = omega arith in rw e (take_zeros n k l)

zeros_length : (n : ℕ) → length (zeros n) ≡ n
unfolding zeros
zeros_length n = length-replicate n zero_f

-- a part from 0 on is the front
pub front_is : {A : Type 0} (n : ℕ) (xs : List A) → take (n - 0) (drop 0 xs) ≡ take n xs
front_is n xs = let e : n - 0 ≡ n = omega arith in rw e

-- the part that is lent of such an array
abbrev part : ℕ → ℕ → List Float
part n k = take (n - 0) (drop 0 (replicate k zero_f))

-- nine parts of arrays and the caller's work buffers
module _ (t : Settings) (rows matrices terms results : List Float) (w : ℕ) (few : SizesFew t) (width : w ≡ beta_length t (length results)) where
  w_few : w ≤ 16
  w_few = rw width (beta_few t (length results) few.p)

  pub lent_is : lent (part w 16) (part t.p 16) (part t.p 16) (part t.rows 32) (part t.rows 32) (part t.n 512) (part t.n 512) (part t.n 512) (part (t.p * t.p) 256) rows matrices terms ≡ lent_for t rows matrices terms results
  unfolding lent_for
  lent_is =
      rw (
        zeros_front w 16 w_few,
        zeros_front t.p 16 few.p,
        zeros_front t.rows 32 few.q,
        zeros_front t.n 512 few.n,
        zeros_front (t.p * t.p) 256 (cells_few t.p few.p),
        width,
      )

  pub room_for : RoomFor (record { beta = part w 16; se = part t.p 16; z = part t.p 16; u = part t.rows 32; b = part t.rows 32; mu = part t.n 512; eta = part t.n 512; residual = part t.n 512; v = part (t.p * t.p) 256 }) results
  room_for =
      rw (
        zeros_front w 16 w_few,
        zeros_front t.p 16 few.p,
        zeros_front t.rows 32 few.q,
        zeros_front t.n 512 few.n,
        zeros_front (t.p * t.p) 256 (cells_few t.p few.p),
        zeros_length w,
        zeros_length t.p,
        zeros_length t.rows,
        zeros_length t.n,
        zeros_length (t.p * t.p),
      )
      (λ h. let s = some_lent t (length results) (rw (← width) h) in omega (arith, s.0, s.1, width))

-- ---- a call without beta is refused
pub refusal_some : (r : Refusal) → refusal_number r ≡ 0 → ⊥
refusal_some r e = omega (arith, (refusal_range r).0, e)

pub fitted_beta : (t : Settings) (s : Shape) (I : Inputs) (L : Lent) → (call_of t s I L).answer.number ≡ 0 → 1 ≤ length L.results.beta
unfolding lengths_of
fitted_beta t s I L z = by (table_of 1 t s I (lengths_of L)) refl
  where
    by : (x : Result (CarriedFamily × CarriedLink) Refusal) → table_of 1 t s I (lengths_of L) ≡ x → 1 ≤ length L.results.beta
    by (Err r) e = absurd (refusal_some r (rw (refused_left t s I L r e) at z))
    by (Ok (f, l)) e =
        let a : Sound 1 t s I (lengths_of L) f l = accepted_sound 1 t s I (lengths_of L) f l e in
        omega (arith, a.results_fit.beta, a.sized.sizes.p_some)

-- ---- what a call leaves, by its number
module _ (l : Left) (a : Answer) (L : Lent) (results : List Float) (e : left a L ≡ l) where
  pub unfitted_done : (a.number ≡ 0 → ⊥) → done a L.rows L.matrices L.terms results ≡ done_of l results
  unfolding done_of results_by
  unfitted_done h = rw (← e, ne_eqb a.number 0 h) refl

  pub fitted_done : (after : List Float) → a.number ≡ 0 → after ≡ laid (numbers_of a L.results) results → done a L.rows L.matrices L.terms after ≡ done_of l results
  unfolding done_of results_by
  fitted_done after h q = rw (← e, eq-eqb a.number 0 h, q) refl

-- the fit's own results were lent with room, and it kept their lengths
module _ (t : Settings) (s : Shape) (I : Inputs) (L M : Lent) (a : Answer) (results : List Float) (e : left a M ≡ call_of t s I L) (z : a.number ≡ 0) where
  pub room_kept : RoomFor L.results results
      → length M.results.beta ≡ length L.results.beta
      → length M.results.se ≡ length L.results.se
      → length M.results.z ≡ length L.results.z
      → length M.results.u ≡ length L.results.u
      → length M.results.b ≡ length L.results.b
      → length M.results.mu ≡ length L.results.mu
      → length M.results.eta ≡ length L.results.eta
      → length M.results.residual ≡ length L.results.residual
      → length M.results.v ≡ length L.results.v
      → numbers_length M.results ≤ length results
  room_kept room k₁ k₂ k₃ k₄ k₅ k₆ k₇ k₈ k₉ =
      let zero-told : (call_of t s I L).answer.number ≡ 0 = ap (λ (l : Left). l.answer.number) (sym e) ∙ z in
      rw (k₁, k₂, k₃, k₄, k₅, k₆, k₇, k₈, k₉) (room (fitted_beta t s I L zero-told))

-- ---- the call of parts of arrays is the call of what is to be lent
pub done_fresh : (t : Settings) (s : Shape) (I : Inputs) (rows matrices terms results : List Float) (w : ℕ) (few : SizesFew t) (width : w ≡ beta_length t (length results))
    → done_of (call_of t s I (lent (part w 16) (part t.p 16) (part t.p 16) (part t.rows 32) (part t.rows 32) (part t.n 512) (part t.n 512) (part t.n 512) (part (t.p * t.p) 256) rows matrices terms)) results ≡ done_for t s I rows matrices terms results
unfolding done_for
done_fresh t s I rows matrices terms results w few width = ap (λ (L : Lent). done_of (call_of t s I L) results) (lent_is t rows matrices terms results w few width)

-- ---- the call of parts from 0 on is the call of the fronts
pub done_parts : (h : Header) (shape : Shape) (theta y weights offset x : List Float) (starts columns : List ℕ) (values rows matrices terms results : List Float)
    → done_for h.settings shape (inputs theta (take (h.settings.n - 0) (drop 0 y)) (take (h.weights - 0) (drop 0 weights)) (take (h.offset - 0) (drop 0 offset)) (take (h.settings.n * h.settings.p - 0) (drop 0 x)) (take (h.settings.rows + 1 - 0) (drop 0 starts)) (take (h.settings.entries - 0) (drop 0 columns)) (take (h.settings.entries - 0) (drop 0 values))) rows matrices terms results
    ≡ done_for h.settings shape (fronts_of h (inputs theta y weights offset x starts columns values)) rows matrices terms results
unfolding fronts_of
done_parts h shape theta y weights offset x starts columns values rows matrices terms results =
    rw (
      front_is h.settings.n y,
      front_is h.weights weights,
      front_is h.offset offset,
      front_is (h.settings.n * h.settings.p) x,
      front_is (h.settings.rows + 1) starts,
      front_is h.settings.entries columns,
      front_is h.settings.entries values,
    )
    refl
