-- The scale of a block, from what its calls leave. Assumes nothing.
use Rattle.quadrature.specs.declared.orders.Decline.{Decline}
use Rattle.std.specs.Prelude.{Result, Ok, Err, ⊤}
use Prim.{tt}
use mathlib.Core.Path.{◌≡◌, refl, sym, ap, ◌∙◌}
use mathlib.Core.Logic.{◌⊎◌, inl, inr, ⊎_elim}
use Rattle.std.specs.Result.{MatchResult, IsErrAnd}
use Rattle.std.proofs.lemmas.Result.{err_from_is_err_and}
use mathlib.Core.List.{List}
use Prim.Native.Nat.{ℕ, ◌+◌, ◌-◌, ◌*◌, ◌/◌, ◌%◌, ◌≤◌}
use native.Mathlib.Omega.{arith}
use borrow.Rule.Slice.PartMut.{put_mid, mid_of, mid_len}
use lib.ListN.{length, take, drop}
use lib.Ieee.{Float}
use Rattle.base.specs.List.{build, zero_at, matrix, grid_to}
use Rattle.base.specs.Rows.{row, Only, Wrote}
use Rattle.base.proofs.Fills.{build_length, build_cong, grid_matrix}
use Rattle.base.proofs.Rows.{row_length, part_is, front_is, part_wrote, only_trans}
use Rattle.layout.specs.WorkMatrices.{inverse_place}
use Rattle.factor.specs.Factor.{ldl_of, ldl_end, LdlLeaves, cholesky_of, cholesky_end, CholeskyLeaves}
use Rattle.factor.specs.Inverse.{ldl_inverse_at, ldl_inverse}
use Rattle.factor.specs.Triangle.{SameBelow, reach}
use Rattle.factor.proofs.LdlTextbook.{ldl_lower, ldl_end_same}
use Rattle.factor.proofs.Solved.{ldl_inverse_same}
use Rattle.quadrature.specs.declared.orders.Decline.TheVariants.{Inverse, Factor}
use Rattle.agq_rule.specs.Scale.{after_cholesky, cholesky_scale, inverse_scale, after_ldl, ldl_scale, block_scale, section_of}
use Rattle.scale.specs.Tells.{tell_scale, ScaleLeaves}
use Rattle.scale.proofs.SectionCopied.{section_whole}

-- the block's LDL', as the rule has it
abbrev factor_of_block : ℕ → List Float → List Float
factor_of_block k B = ldl_of k B (build zero_at (k * k))

-- factors with the same lower triangle have one inverse
inverse_same : (s : ℕ) (F G : List Float) → SameBelow s F G → ldl_inverse s F ≡ ldl_inverse s G
unfolding ldl_inverse matrix
inverse_same s F G same = build_cong (λ t. ldl_inverse_at s F (t / s) (t % s)) (λ t. ldl_inverse_at s G (t / s) (t % s)) (s * s) (λ t l. ldl_inverse_same s F G same (t / s) (t % s))

-- a slice of its size that is filled by its entries is the inverse
grid_inverse : (k : ℕ) (L b : List Float) → length b ≡ k * k → grid_to k k (ldl_inverse_at k L) b ≡ ldl_inverse k L
unfolding ldl_inverse
grid_inverse k L b n = grid_matrix k k (ldl_inverse_at k L) b n

-- ---- how the end of a factor is told

-- a bad pivot is told as d, whichever it is
pub told : Decline → Result ⊤ ℕ → Result ⊤ Decline
told d (Ok tt) = Ok tt
told d (Err i) = Err d

-- either it was found, or a pivot was bad
end_is : (z : Result ⊤ ℕ) → (z ≡ Ok tt) ⊎ ((i : ℕ) × (z ≡ Err i))
end_is (Ok tt) = inl refl
end_is (Err i) = inr (i, refl)

-- as `map_err` tells it
pub told_by : {Q : ℕ → Decline → Type 0} (d : Decline) (z : Result ⊤ ℕ) (r : Result ⊤ Decline) → ((i : ℕ) (y : Decline) → Q i y → y ≡ d)
    → MatchResult z (λ x. r ≡ Ok x) (λ i. IsErrAnd r (Q i)) → r ≡ told d z
unfolding told
told_by d (Ok tt) r k m = m
told_by {Q} d (Err i) r k m = let f : (y : Decline) × (r ≡ Err y) × Q i y = err_from_is_err_and r m in f.1 ∙ ap Err (k i f.0 f.2)

told_ok : (d : Decline) (z : Result ⊤ ℕ) (x : ⊤) → told d z ≡ Ok x → z ≡ Ok tt
unfolding told
told_ok d (Ok tt) x e = refl
told_ok d (Err i) x e = cc

-- ---- what the calls leave

-- the end of LDL', and where it was found the factor with its lower triangle; no other place of t
record Factors (k : ℕ) (B t t' : List Float) (r : Result ⊤ ℕ) : Type 0 where
  pub end : r ≡ ldl_end k (factor_of_block k B)
  pub lower : r ≡ Ok tt → SameBelow k (row 0 (k * k) t') (factor_of_block k B)
  pub frame : Only 0 (k * k) t t'

factor_made : (k place end : ℕ) (B m t ys : List Float) (r : Result ⊤ ℕ) → end ≡ place + k * k → row place (k * k) m ≡ B → k * k ≤ length t
    → length ys ≡ length (mid_of 0 (k * k - 0) t) → LdlLeaves k (take (end - place) (drop place m)) (mid_of 0 (k * k - 0) t) r ys → Factors k B t (put_mid 0 (k * k - 0) t ys) r
unfolding reach ldl_of
factor_made k place end B m t ys r ee eB h l d =
    let A : take (end - place) (drop place m) ≡ B = part_is place (k * k) end m ee ∙ eB in
    let d' : LdlLeaves k B (mid_of 0 (k * k - 0) t) r ys = rw A at d in
    let n : length (mid_of 0 (k * k - 0) t) ≡ k * k = mid_len 0 (k * k) t h ∙ omega arith in
    let w : Wrote 0 (k * k) ys t (put_mid 0 (k * k - 0) t ys) = part_wrote 0 (k * k) (k * k) t ys (omega arith) h (l ∙ n) in
    let same : SameBelow k (ldl_of k B (mid_of 0 (k * k - 0) t)) (factor_of_block k B) =
    ldl_lower k B B (mid_of 0 (k * k - 0) t) (build zero_at (k * k)) (omega arith) (omega (arith, build_length zero_at (k * k))) (λ i j a b. refl) in
    record {
      end = d'.end ∙ ldl_end_same k (ldl_of k B (mid_of 0 (k * k - 0) t)) (factor_of_block k B) same;
      lower = λ e.
          let x : row 0 (k * k) (put_mid 0 (k * k - 0) t ys) ≡ ldl_of k B (mid_of 0 (k * k - 0) t) = w.row' ∙ d'.out ∙ rw e refl in
          rw x same;
      frame = w.only;
    }

-- the inverse over the part that was lent
inverse_made : (k place end : ℕ) (B m t ys : List Float) → end ≡ place + k * k → end ≤ length m → SameBelow k (row 0 (k * k) t) (factor_of_block k B)
    → length ys ≡ length (mid_of place (end - place) m) → ys ≡ grid_to k k (ldl_inverse_at k (take (k * k - 0) (drop 0 t))) (mid_of place (end - place) m)
    → Wrote place (k * k) (ldl_inverse k (factor_of_block k B)) m (put_mid place (end - place) m ys)
inverse_made k place end B m t ys ee h same l y =
    let n : length (mid_of place (end - place) m) ≡ k * k = mid_len place end m h ∙ omega arith in
    let w : Wrote place (k * k) ys m (put_mid place (end - place) m ys) = part_wrote place (k * k) end m ys ee h (l ∙ n) in
    let y' : ys ≡ ldl_inverse k (row 0 (k * k) t) = y ∙ grid_inverse k (take (k * k - 0) (drop 0 t)) (mid_of place (end - place) m) n ∙ ap (ldl_inverse k) (front_is (k * k) t) in
    record { row' = w.row' ∙ y' ∙ inverse_same k (row 0 (k * k) t) (factor_of_block k B) same; only = w.only }

-- the end of Cholesky of S, and where it was found the factor; no other place of m
record Roots (k place : ℕ) (S m m' : List Float) (r : Result ⊤ ℕ) : Type 0 where
  pub end : r ≡ cholesky_end k S (cholesky_of k S)
  pub root : r ≡ Ok tt → row place (k * k) m' ≡ cholesky_of k S
  pub frame : Only place (k * k) m m'

root_made : (k place end : ℕ) (S m ys : List Float) (r : Result ⊤ ℕ) → end ≡ place + k * k → end ≤ length m → row place (k * k) m ≡ S
    → length ys ≡ length (mid_of place (end - place) m) → CholeskyLeaves k (mid_of place (end - place) m) r ys → Roots k place S m (put_mid place (end - place) m ys) r
unfolding reach cholesky_of
root_made k place end S m ys r ee h eS l d =
    let A : mid_of place (end - place) m ≡ S = part_is place (k * k) end m ee ∙ eS in
    let n : length (mid_of place (end - place) m) ≡ k * k = mid_len place end m h ∙ omega arith in
    let d' : CholeskyLeaves k S r ys = rw A at d in
    let w : Wrote place (k * k) ys m (put_mid place (end - place) m ys) = part_wrote place (k * k) end m ys ee h (l ∙ n) in
    record { end = d'.end; root = λ e. w.row' ∙ d'.out ∙ rw e refl; frame = w.only }

-- ---- the three answers

-- the part of t that was lent to `ldl`
abbrev lent_front : ℕ → List Float → List Float
lent_front k t = mid_of 0 (k * k - 0) t

-- t with what came back
abbrev with_front : ℕ → List Float → List Float → List Float
with_front k t ys = put_mid 0 (k * k - 0) t ys

-- the block that is factored
abbrev block_of : ℕ → ℕ → ℕ → List Float → List Float
block_of q s k m = section_of q (row 0 (q * q) m) s k

module _ (q s k place end : ℕ) (m m₁ t ys : List Float) (r : Result ⊤ ℕ) (ep : place ≡ inverse_place q) (ee : end ≡ place + k * k) (hm : end ≤ length m) (ht : k * k ≤ length t)
    (w : Wrote (inverse_place q) (k * k) (block_of q s k m) m m₁) (l : length ys ≡ length (lent_front k t)) (d : LdlLeaves k (take (end - place) (drop place m₁)) (lent_front k t) r ys) where
  wrote_block : Wrote place (k * k) (block_of q s k m) m m₁
  wrote_block = rw ep w

  first : Factors k (block_of q s k m) t (with_front k t ys) r
  first = factor_made k place end (block_of q s k m) m₁ t ys r ee wrote_block.row' ht l d

  -- LDL' has a bad pivot
  pub no_inverse : (i : ℕ) → r ≡ Err i → ScaleLeaves q s k m m₁ t (with_front k t ys) (Err Inverse)
  unfolding tell_scale block_scale ldl_scale after_ldl
  no_inverse i e = record { scale = rw (← first.end, e) refl; matrices_only = w.only; terms_only = first.frame }

  pub not_inverted : (y : Decline) → told Inverse r ≡ Err y → ScaleLeaves q s k m m₁ t (with_front k t ys) (Err y)
  unfolding told
  not_inverted y h =
      ⊎_elim (λ (g : r ≡ Ok tt). let o : ◌≡◌ {A = Result ⊤ Decline} (Ok tt) (Err y) = sym (ap (told Inverse) g) ∙ h in absurd (cc))
      (λ (p : (i : ℕ) × (r ≡ Err i)). let o : ◌≡◌ {A = Result ⊤ Decline} (Err Inverse) (Err y) = sym (ap (told Inverse) p.1) ∙ h in rw (← o) (no_inverse p.0 p.1)) (end_is r)

  module _ (zs ws : List Float) (z : Result ⊤ ℕ) (found : ⊤) (eo : told Inverse r ≡ Ok found) (lz : length zs ≡ length (mid_of place (end - place) m₁))
      (y : zs ≡ grid_to k k (ldl_inverse_at k (take (k * k - 0) (drop 0 (with_front k t ys)))) (mid_of place (end - place) m₁))
      (lw : length ws ≡ length (mid_of place (end - place) (put_mid place (end - place) m₁ zs))) (x : CholeskyLeaves k (mid_of place (end - place) (put_mid place (end - place) m₁ zs)) z ws) where
    e : r ≡ Ok tt
    e = told_ok Inverse r found eo

    second : Wrote place (k * k) (ldl_inverse k (factor_of_block k (block_of q s k m))) m₁ (put_mid place (end - place) m₁ zs)
    second = inverse_made k place end (block_of q s k m) m₁ (with_front k t ys) zs ee (omega (arith, w.only.len)) (first.lower e) lz y

    third : Roots k place (ldl_inverse k (factor_of_block k (block_of q s k m))) (put_mid place (end - place) m₁ zs) (put_mid place (end - place) (put_mid place (end - place) m₁ zs) ws) z
    third = root_made k place end (ldl_inverse k (factor_of_block k (block_of q s k m))) (put_mid place (end - place) m₁ zs) ws z ee (omega (arith, w.only.len, second.only.len)) second.row' lw x

    changed : Only (inverse_place q) (k * k) m (put_mid place (end - place) (put_mid place (end - place) m₁ zs) ws)
    changed = let o : Only place (k * k) m (put_mid place (end - place) (put_mid place (end - place) m₁ zs) ws) = only_trans wrote_block.only (only_trans second.only third.frame) in rw (← ep) o

    -- Cholesky of the inverse has a bad pivot
    pub no_factor : (i : ℕ) → z ≡ Err i → ScaleLeaves q s k m (put_mid place (end - place) (put_mid place (end - place) m₁ zs) ws) t (with_front k t ys) (Err Factor)
    unfolding tell_scale block_scale ldl_scale after_ldl inverse_scale cholesky_scale after_cholesky
    no_factor i g = record { scale = rw (← first.end, e, ← third.end, g) refl; matrices_only = changed; terms_only = first.frame }

    -- the factor was found
    pub scale_found : z ≡ Ok tt → ScaleLeaves q s k m (put_mid place (end - place) (put_mid place (end - place) m₁ zs) ws) t (with_front k t ys) (Ok tt)
    unfolding tell_scale block_scale ldl_scale after_ldl inverse_scale cholesky_scale after_cholesky
    scale_found g =
        let L : row (inverse_place q) (k * k) (put_mid place (end - place) (put_mid place (end - place) m₁ zs) ws) ≡ cholesky_of k (ldl_inverse k (factor_of_block k (block_of q s k m))) =
        ap (λ (o : ℕ). row o (k * k) (put_mid place (end - place) (put_mid place (end - place) m₁ zs) ws)) (sym ep) ∙ third.root g in
        record { scale = rw (L, ← first.end, e, ← third.end, g) refl; matrices_only = changed; terms_only = first.frame }

    -- either way
    pub scale_left : (a : Result ⊤ Decline) → a ≡ told Factor z → ScaleLeaves q s k m (put_mid place (end - place) (put_mid place (end - place) m₁ zs) ws) t (with_front k t ys) a
    unfolding told
    scale_left a h =
        ⊎_elim (λ (g : z ≡ Ok tt). rw (h ∙ ap (told Factor) g) (scale_found g)) (λ (p : (i : ℕ) × (z ≡ Err i)). rw (h ∙ ap (told Factor) p.1) (no_factor p.0 p.1)) (end_is z)

-- ---- all effects: what the joint rule asks for
pub joint_scale : (q : ℕ) (m m' t t' : List Float) (r : Result ⊤ Decline) → q * q ≤ length m → ScaleLeaves q 0 q m m' t t' r
    → tell_scale r (row (inverse_place q) (q * q) m') ≡ block_scale q (row 0 (q * q) m)
joint_scale q m m' t t' r h l = l.scale ∙ ap (block_scale q) (section_whole q (row 0 (q * q) m) (row_length 0 (q * q) m (omega arith)))
