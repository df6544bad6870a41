-- The tries one after another: each is counted by what became of it, and one that is refused leaves the rest of the rule's search. Assumes nothing.
use Rattle.tries.specs.declared.search.TryRefusal.{TryRefusal}
use Rattle.std.specs.Prelude.{Result, Ok, Err}
use mathlib.Core.Path.{◌≡◌, refl, sym, ◌∙◌, ap}
use mathlib.Core.List.{List, [], ◌∷◌}
use Prim.Native.Nat.{ℕ, suc, ◌+◌, ◌-◌, ◌≤◌, ◌<◌}
use native.Mathlib.Omega.{arith}
use lib.Ieee.{Float}
use Rattle.base.specs.Number.{◌⊗◌, one_f, half_f}
use Rattle.base.specs.Rows.{row, OnlyTwo}
use Rattle.model.specs.Caps.{tries_cap}
use Rattle.model.proofs.Caps.{tries_few}
use Rattle.model.specs.Account.{no_counts, ◌⊞◌, AtMost, SumFits}
use Rattle.model.specs.Items.{Fate, a_try, count_of, tally}
use Rattle.model.specs.declared.counts.Account.{Account}
use Rattle.model.proofs.Accounts.{plus_assoc, plus_none, none_plus}
use Rattle.model.proofs.Tallies.{tally_append, tally_none}
use Rattle.model.proofs.Parts.{tally_parts}
use Rattle.family.specs.Carried.{link_of}
use Rattle.family.specs.declared.carried.CarriedLink.{CarriedLink}
use Rattle.rule.specs.Try.{Trial, refused, try_of, Search, found_move, no_move, item_before, after_try, tries_from, tries_of}
use Rattle.tries.specs.Told.{Room, trial_in, tell_try, fate_of, TryDone, Brief, found, none, briefly, tries_to, TriesDone}
use Rattle.base.proofs.TwoRows.{two_row, two_trans, two_none}

-- ---- counts
-- a search after tries that were refused, of which a is the account
abbrev pub later : Account → Brief → Brief
later a (found m b) = found m (a ⊞ b)
later a (none b) = none (a ⊞ b)

-- the account of one try
abbrev one : Fate → Account
one f = tally (a_try f ∷ [])

later_none : (s : Brief) → later no_counts s ≡ s
later_none (found m b) = ap (found m) (none_plus b)
later_none (none b) = ap none (none_plus b)

later_one : (a : Account) (f : Fate) (s : Search) → later a (briefly (item_before (a_try f) s)) ≡ later (a ⊞ one f) (briefly s)
unfolding item_before
later_one a f (found_move m is) = ap (found m) (rw (tally_append (a_try f ∷ []) is) (sym (plus_assoc a (one f) (tally is))))
later_one a f (no_move is) = ap none (rw (tally_append (a_try f ∷ []) is) (sym (plus_assoc a (one f) (tally is))))

-- no try counts nothing
pub none_few : (k : ℕ) → AtMost (tries_to k) no_counts
none_few k =
    record { fits = omega arith; solves = omega arith; tries = omega arith; points = omega arith; eta = omega arith; mean = omega arith; pwrss = omega arith; ok = omega arith }

-- one try counts one
one_try : (f : Fate) → (one f).tries ≡ 1
unfolding tally count_of
one_try f = refl

one_few : (f : Fate) → AtMost (tries_to 1) (one f)
unfolding tally count_of
one_few f =
    let p = tally_parts (a_try f ∷ []) in
    record { fits = omega arith; solves = omega arith; tries = omega arith; points = omega arith; eta = omega (arith, p); mean = omega (arith, p); pwrss = omega (arith, p); ok = omega (arith, p) }

-- k tries and one more
few_more : (k : ℕ) (a b : Account) → AtMost (tries_to k) a → AtMost (tries_to 1) b → AtMost (tries_to (k + 1)) (a ⊞ b)
unfolding ◌⊞◌
few_more k a b p q =
    record { fits = omega arith; solves = omega arith; tries = omega arith; points = omega arith; eta = omega arith; mean = omega arith; pwrss = omega arith; ok = omega arith }

-- ---- one turn of the search
module _ (T : Trial) (cap : ℕ) (made : Account) (step : Float) where
  turn : made.tries < cap → later made (briefly (tries_from T (cap - made.tries) step)) ≡ later made (briefly (after_try (try_of T step) (tries_from T (cap - (made.tries + 1))) step))
  unfolding tries_from
  turn h = let e : cap - made.tries ≡ suc (cap - (made.tries + 1)) = omega arith in rw e

  nothing_left : cap ≤ made.tries → later made (briefly (tries_from T (cap - made.tries) step)) ≡ none made
  unfolding tries_from
  nothing_left h = let e : cap - made.tries ≡ 0 = omega arith in rw (e, tally_none) (ap none (plus_none made))

-- the loop has made these tries, all refused, and the step is for the next
pub record Going (T : Trial) (next mu cap : ℕ) (before now : List Float) (step : Float) (made : Account) : Type 0 where
  pub capped : cap ≤ 100
  pub few : made.tries ≤ cap
  pub parts : AtMost (tries_to made.tries) made
  pub only : OnlyTwo next T.n mu T.n before now
  pub same : later made (briefly (tries_from T (cap - made.tries) step)) ≡ briefly (tries_of T)

-- so many tries are few
hundred : (k : ℕ) (a : Account) → k ≤ 100 → AtMost (tries_to k) a → AtMost (tries_to 100) a
hundred k a l p =
    record { fits = p.fits; solves = p.solves; tries = omega arith; points = p.points; eta = omega arith; mean = omega arith; pwrss = omega arith; ok = omega arith }

module _ (T : Trial) (next mu cap : ℕ) (v : List Float) where
  pub starts : (made : Account) → cap ≡ tries_cap (link_of T.link) → made ≡ no_counts → Going T next mu cap v v one_f made
  unfolding tries_of
  starts made h m =
      let e : cap - 0 ≡ cap = omega arith in
      rw m
      (record {
        capped = omega (arith, tries_few (link_of T.link));
        few = omega arith;
        parts = none_few 0;
        only = two_none next T.n mu T.n v;
        same = later_none (briefly (tries_from T (cap - 0) one_f)) ∙ rw (e, h);
      })

  -- no try is left
  pub ends : (w : List Float) (step : Float) (made : Account) → Going T next mu cap v w step made → cap ≤ made.tries → TriesDone T next mu v w (Err made)
  ends w step made g h =
      record { says = sym (nothing_left T cap made step h) ∙ g.same; only = g.only; few = hundred made.tries made (omega (arith, g.few, g.capped)) g.parts }

-- the rows are as long as they were
pub room_kept : (n q prev next raw mu : ℕ) (u w z v x : List Float) → Room n q prev next raw mu u w z v → OnlyTwo next n mu n v x → Room n q prev next raw mu u w z x
room_kept n q prev next raw mu u w z v x r o =
    record {
      prev_in = omega (arith, r.prev_in, o.len);
      next_in = omega (arith, r.next_in, o.len);
      raw_in = omega (arith, r.raw_in, o.len);
      mu_in = omega (arith, r.mu_in, o.len);
      prev_next = r.prev_next;
      raw_next = r.raw_next;
      prev_mu = r.prev_mu;
      raw_mu = r.raw_mu;
      next_mu = r.next_mu;
      u_long = r.u_long;
      w_long = r.w_long;
      z_long = r.z_long;
    }

-- ---- one turn of the loop
-- a try can be counted
pub sum_fits : (T : Trial) (next mu cap : ℕ) (v x : List Float) (step : Float) (made a : Account) (t : Result Float TryRefusal) → Going T next mu cap v x step made → a ≡ one (fate_of t) → SumFits made a
sum_fits T next mu cap v x step made a t g e =
    let p = g.parts in
    let o = one_few (fate_of t) in
    let f = g.few in
    let c = g.capped in
    rw e
    (record { fits = omega arith; solves = omega arith; tries = omega arith; points = omega arith; eta = omega arith; mean = omega arith; pwrss = omega arith; ok = omega arith })

-- it counts one
pub counts_one : (made a b : Account) (t : Result Float TryRefusal) → a ≡ one (fate_of t) → b ≡ made ⊞ a → b.tries ≡ made.tries + 1
unfolding ◌⊞◌
counts_one made a b t ea eb = rw (eb, ea) (omega (arith, one_try (fate_of t)))

module _ (link : CarriedLink) (n q prev next raw mu : ℕ) (u w z : List Float) (cap : ℕ) (v x y : List Float) (step : Float) (made : Account) (r : Result Float TryRefusal) (room : Room n q prev next raw mu u w z v) (g : Going (trial_in link n q prev raw u w z v) next mu cap v x step made) (l : made.tries < cap) (d : TryDone (trial_in link n q prev raw u w z x) next mu step x y r) (a b : Account) (ea : a ≡ one (fate_of r)) (eb : b ≡ made ⊞ a) where
  -- the try, over the rows as they were at entry
  tried : tell_try r (row next n y) (row mu n y) ≡ try_of (trial_in link n q prev raw u w z v) step
  tried =
      rw (
        two_row prev n next n mu n room.prev_next room.prev_mu room.prev_in g.only,
        two_row raw n next n mu n room.raw_next room.raw_mu room.raw_in g.only,
      ) at d.says

  turned : later made (briefly (after_try (tell_try r (row next n y) (row mu n y)) (tries_from (trial_in link n q prev raw u w z v) (cap - (made.tries + 1))) step)) ≡ briefly (tries_of (trial_in link n q prev raw u w z v))
  turned = rw tried (sym (turn (trial_in link n q prev raw u w z v) cap made step l) ∙ g.same)

  -- the account with this try
  abbrev with_it : Account
  with_it = made ⊞ one (fate_of r)

  with_is : b ≡ with_it
  with_is = eb ∙ rw ea refl

  one_more : with_it.tries ≡ made.tries + 1
  one_more = counts_one made (one (fate_of r)) with_it r refl refl

  parts_more : AtMost (tries_to (made.tries + 1)) with_it
  parts_more = few_more made.tries made (one (fate_of r)) g.parts (one_few (fate_of r))

  pub moved : (p : Float) → r ≡ Ok p → TriesDone (trial_in link n q prev raw u w z v) next mu v y (Ok (p, b))
  unfolding after_try
  moved p e =
      rw with_is
      (record { says = rw e (rw e at turned); only = two_trans g.only d.only; few = hundred (made.tries + 1) with_it (omega (arith, g.capped)) parts_more })

  pub halved : tell_try r (row next n y) (row mu n y) ≡ refused (fate_of r) → Going (trial_in link n q prev raw u w z v) next mu cap v y (step ⊗ half_f) b
  unfolding after_try ◌⊞◌ tally count_of
  halved e =
      rw with_is
      (record {
        capped = g.capped;
        few = omega (arith, one_more);
        parts = parts_more;
        only = two_trans g.only d.only;
        same = sym (later_one made (fate_of r) (tries_from (trial_in link n q prev raw u w z v) (cap - (made.tries + 1)) (step ⊗ half_f))) ∙ (rw e at turned);
      })
