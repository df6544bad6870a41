-- One answer, one content: each contract of this crate leaves no choice, but for the two rows where no try was accepted. Assumes nothing.
use Rattle.tries.specs.declared.search.TryRefusal.{TryRefusal}
use Rattle.std.specs.Prelude.{Result, Ok, Err}
use Rattle.tries.specs.declared.search.TryRefusal.TheVariants.{Eta}
use Rattle.tries.specs.declared.search.TryRefusal.TheVariants.{Mean}
use Rattle.tries.specs.declared.search.TryRefusal.TheVariants.{Pwrss}
use mathlib.Core.Path.{◌≡◌, refl, sym, ap, ◌∙◌}
use mathlib.Core.List.{List, [], ◌∷◌}
use mathlib.Core.Bool.{Bool}
use mathlib.Core.Logic.{◌⊎◌, inl, inr, ⊎_elim}
use Prim.Native.Nat.{ℕ, ◌+◌, ◌-◌, ◌≤◌, ◌<◌}
use native.Mathlib.Omega.{arith}
use lib.ListN.{length}
use lib.Seq.{ext_get_or}
use lib.Ieee.{Float, nan}
use Rattle.base.specs.Sum.{◌!◌, all_to, finite_at, dot_of}
use Rattle.base.specs.List.{build}
use Rattle.base.specs.Rows.{row, Out, Wrote, OnlyTwo}
use Rattle.base.proofs.Unique.{one_value}
use Rattle.base.proofs.Sums.{lt_or_ge}
use Rattle.base.proofs.Rows.{row_at, wrote_unique}
use Rattle.model.specs.Items.{eta_refused, mean_refused, pwrss_refused, accepted, a_try, tally}
use Rattle.model.specs.declared.counts.Account.{Account}
use Rattle.family.specs.declared.carried.CarriedLink.{CarriedLink}
use Rattle.rule.specs.Try.{Trial, candidate_at, fine_eta_at, mean_at, square_at, add_to, Tried, refused, moves}
use Rattle.tries.specs.Told.{tell_try, fate_of, TryDone, Brief, found, none, tell_tries, TriesDone}

-- `candidate`
pub candidate_unique : (n prev next raw : ℕ) (step : Float) (v x y : List Float) → next + n ≤ length v
    → Wrote next n (build (candidate_at (row prev n v) (row raw n v) step) n) v x → Wrote next n (build (candidate_at (row prev n v) (row raw n v) step) n) v y → x ≡ y
candidate_unique n prev next raw step v x y h s t = wrote_unique next n (build (candidate_at (row prev n v) (row raw n v) step) n) v x y h s t

-- `fine_etas`
pub fine_etas_unique : (link : CarriedLink) (n next : ℕ) (v : List Float) (r s : Bool) → r ≡ all_to n (fine_eta_at link (row next n v)) → s ≡ all_to n (fine_eta_at link (row next n v)) → r ≡ s
fine_etas_unique link n next v r s d e = one_value d e

-- `means`
pub means_unique : (link : CarriedLink) (n next mu : ℕ) (v x y : List Float) → mu + n ≤ length v
    → Wrote mu n (build (mean_at link (row next n v)) n) v x → Wrote mu n (build (mean_at link (row next n v)) n) v y → x ≡ y
means_unique link n next mu v x y h s t = wrote_unique mu n (build (mean_at link (row next n v)) n) v x y h s t

-- `finite_row`
pub finite_row_unique : (n at : ℕ) (v : List Float) (r s : Bool) → r ≡ all_to n (finite_at (row at n v)) → s ≡ all_to n (finite_at (row at n v)) → r ≡ s
finite_row_unique n at v r s d e = one_value d e

-- `pwrss`
pub pwrss_unique : (n q : ℕ) (u w z c : List Float) (r s : Float) → r ≡ add_to n (dot_of q u u) (square_at w z c) → s ≡ add_to n (dot_of q u u) (square_at w z c) → r ≡ s
pwrss_unique n q u w z c r s d e = one_value d e

-- ---- two rows, and all else as it was, leave one list
both_unique : (b c n : ℕ) (v x y : List Float) → b + n ≤ length v → c + n ≤ length v → OnlyTwo b n c n v x → OnlyTwo b n c n v y → row b n x ≡ row b n y → row c n x ≡ row c n y → x ≡ y
both_unique b c n v x y hb hc p q eb ec =
    ext_get_or nan x y (p.len ∙ sym q.len) (λ i l. by_first i (where_is b i))
  where
    -- the place i is in the row at d, or out of it
    where_is : (d i : ℕ) → ((d ≤ i) × (i < d + n)) ⊎ Out d n i
    where_is d i =
        ⊎_elim (λ (a : i < d). inr (inl a)) (λ (a : d ≤ i). ⊎_elim (λ (e : i < d + n). inl (a, e)) (λ (e : d + n ≤ i). inr (inr e)) (lt_or_ge i (d + n)))
        (lt_or_ge i d)

    inside : (d i : ℕ) → d + n ≤ length v → row d n x ≡ row d n y → (d ≤ i) × (i < d + n) → x ! i ≡ y ! i
    inside d i h e m =
        let k : d + (i - d) ≡ i = omega arith in
        let l : i - d < n = omega arith in
        let same : x ! (d + (i - d)) ≡ y ! (d + (i - d)) =
        sym (row_at d n x (omega (arith, p.len)) (i - d) l) ∙ ap (λ (t : List Float). t ! (i - d)) e ∙ row_at d n y (omega (arith, q.len)) (i - d) l in
        rw k at same

    by_second : (i : ℕ) → Out b n i → ((c ≤ i) × (i < c + n)) ⊎ Out c n i → x ! i ≡ y ! i
    by_second i o m = ⊎_elim (λ a. inside c i hc ec a) (λ a. p.kept i o a ∙ sym (q.kept i o a)) m

    by_first : (i : ℕ) → ((b ≤ i) × (i < b + n)) ⊎ Out b n i → x ! i ≡ y ! i
    by_first i m = ⊎_elim (λ a. inside b i hb eb a) (λ o. by_second i o (where_is c i)) m

-- ---- `one_try`
-- the answer that tells of a try
abbrev answer : Tried → Result Float TryRefusal
answer (refused eta_refused) = (Err Eta)
answer (refused mean_refused) = (Err Mean)
answer (refused pwrss_refused) = (Err Pwrss)
answer (refused accepted) = (Err Eta)
answer (moves m) = Ok m.pwrss

answer_told : (r : Result Float TryRefusal) (c m : List Float) → r ≡ answer (tell_try r c m)
answer_told (Err Eta) c m = refl
answer_told (Err Mean) c m = refl
answer_told (Err Pwrss) c m = refl
answer_told (Ok p) c m = refl

module _ (T : Trial) (next mu : ℕ) (step : Float) (v x y : List Float) (r s : Result Float TryRefusal) (next_in : next + T.n ≤ length v) (mu_in : mu + T.n ≤ length v) (d : TryDone T next mu step v x r) (e : TryDone T next mu step v y s) where
  pub try_answer_unique : r ≡ s
  try_answer_unique =
      answer_told r (row next T.n x) (row mu T.n x) ∙ ap answer (d.says ∙ sym e.says) ∙ sym (answer_told s (row next T.n y) (row mu T.n y))

  pub try_rows_unique : x ≡ y
  try_rows_unique = both_unique next mu T.n v x y next_in mu_in d.only e.only (d.candidate ∙ sym e.candidate) (d.means ∙ sym e.means)

-- `of_try`
pub of_try_unique : (t : Result Float TryRefusal) (r s : Account) → r ≡ tally (a_try (fate_of t) ∷ []) → s ≡ tally (a_try (fate_of t) ∷ []) → r ≡ s
of_try_unique t r s d e = one_value d e

-- ---- `tries`
-- the answer that tells of a search
abbrev answers : Brief → Result (Float × Account) Account
answers (found m a) = Ok (m.pwrss, a)
answers (none a) = Err a

answers_told : (r : Result (Float × Account) Account) (c m : List Float) → r ≡ answers (tell_tries r c m)
answers_told (Ok (p, a)) c m = refl
answers_told (Err a) c m = refl

-- the predictor of the move that was found, c where none was
abbrev move_row : Brief → List Float → List Float
move_row (found m a) c = m.eta
move_row (none a) c = c

-- its means, c where none was
abbrev mean_row : Brief → List Float → List Float
mean_row (found m a) c = m.mu
mean_row (none a) c = c

module _ (T : Trial) (next mu : ℕ) (v x y : List Float) (r s : Result (Float × Account) Account) (d : TriesDone T next mu v x r) (e : TriesDone T next mu v y s) where
  pub tries_answer_unique : r ≡ s
  tries_answer_unique =
      answers_told r (row next T.n x) (row mu T.n x) ∙ ap answers (d.says ∙ sym e.says) ∙ sym (answers_told s (row next T.n y) (row mu T.n y))

-- where a try was accepted, the rows too
pub tries_rows_unique : (T : Trial) (next mu : ℕ) (v x y : List Float) (p o : Float) (a b : Account) → next + T.n ≤ length v → mu + T.n ≤ length v
    → TriesDone T next mu v x (Ok (p, a)) → TriesDone T next mu v y (Ok (o, b)) → x ≡ y
tries_rows_unique T next mu v x y p o a b hn hm d e =
    both_unique next mu T.n v x y hn hm d.only e.only
    (ap (λ (t : Brief). move_row t v) (d.says ∙ sym e.says))
    (ap (λ (t : Brief). mean_row t v) (d.says ∙ sym e.says))
