-- The header of a written job says what was written. Assumes nothing.
use Rattle.std.specs.Prelude.{Option, Some, None}
use mathlib.Core.Path.{◌≡◌, refl, sym, ◌∙◌}
use mathlib.Core.Bool.{true}
use mathlib.Core.List.{List, [], ◌∷◌}
use Prim.Native.Nat.{ℕ, ◌≤◌, ◌<◌}
use native.Mathlib.Nat.{zero-add}
use native.Mathlib.Omega.{arith}
use borrow.Author.Tests.{leb-true, ne_eqb}
use lib.Ieee.{Float}
use Rattle.model.specs.Names.{family_code, family_coded, link_code, link_coded, start_code, start_coded}
use Rattle.model.specs.Settings.{good_limit}
use Rattle.model.proofs.Codes.{family_of_code, link_of_code, start_of_code}
use Rattle.model.specs.declared.names.Family.{Family}
use Rattle.model.specs.declared.names.Family.TheVariants.{Binomial, Poisson, Gaussian, Gamma}
use Rattle.model.specs.declared.names.Link.{Link}
use Rattle.model.specs.declared.names.Link.TheVariants.{Logit, Probit, Cloglog, Log, Identity, Inverse, Sqrt}
use Rattle.model.specs.declared.names.Start.{Start}
use Rattle.model.specs.declared.names.Start.TheVariants.{Usual, Trials}
use Rattle.bits.specs.Bits.{bits_of}
use Rattle.job.specs.Format.{version, family_field, link_field, weighted, shifted, wish, obs, cols, blocks, limit_field, start_field, blocks_at}
use Rattle.job.specs.Job.{Job, family_from, link_from, limit_from, start_from, start_in}
use Rattle.job.specs.Write.{packed, present, limit_code, Version, version1, version2, version_code, head_length, common_bytes, start_bytes, head_bytes}
use Rattle.job.proofs.ByteLaws.{Bytes}
use Rattle.job_back.specs.Sayable.{SettingsSayable}
use Rattle.job_back.proofs.Pieces.{Has, has_left, has_right, has_number, peel, bytes_length}

-- ---- codes
family_few : (f : Family) → family_code f < 4
family_few Binomial = omega arith
family_few Poisson = omega arith
family_few Gaussian = omega arith
family_few Gamma = omega arith

pub link_few : (l : Link) → link_code l < 7
link_few Logit = omega arith
link_few Probit = omega arith
link_few Cloglog = omega arith
link_few Log = omega arith
link_few Identity = omega arith
link_few Inverse = omega arith
link_few Sqrt = omega arith

start_few : (t : Start) → start_code t < 2
start_few Usual = omega arith
start_few Trials = omega arith

present_few : (xs : List Float) → present xs < 2
unfolding present
present_few [] = omega arith
present_few (x ∷ xs) = omega arith

-- a limit is at most 1000, or 1023 for 'not given'
pub limit_code_lem : (l : Option ℕ) → good_limit l ≡ true → limit_code l < 1024
unfolding good_limit limit_code
limit_code_lem (Some k) e = omega (arith, leb-true k 1000 e)
limit_code_lem None e = omega arith

pub family_again : (f : Family) → family_from (family_coded (family_code f)) ≡ f
unfolding family_from
family_again f = rw (family_of_code f)

pub link_again : (l : Link) → link_from (link_coded (link_code l)) ≡ l
unfolding link_from
link_again l = rw (link_of_code l)

pub start_again : (t : Start) → start_from (start_coded (start_code t)) ≡ t
unfolding start_from
start_again t = rw (start_of_code t)

pub limit_again : (l : Option ℕ) → good_limit l ≡ true → limit_from (limit_code l) ≡ l
unfolding good_limit limit_code limit_from
limit_again (Some k) e = rw (ne_eqb k 1023 (λ q. omega (arith, leb-true k 1000 e)))
limit_again None e = refl

-- ---- the fields
pub record HeadSaid (v : Version) (j : Job) (s : List ℕ) : Type 0 where
  pub versioned : version s ≡ version_code v
  pub family : family_field s ≡ family_code j.settings.family
  pub link : link_field s ≡ link_code j.settings.link
  pub weights : weighted s ≡ present j.weights
  pub offset : shifted s ≡ present j.offset
  pub wished : wish s ≡ j.settings.n_agq
  pub n : obs s ≡ j.settings.n
  pub p : cols s ≡ j.settings.p
  pub count : blocks s ≡ j.shape.count
  pub limit : limit_field s ≡ limit_code j.settings.limit

-- a version's number takes four bits
version_few : (v : Version) → version_code v ≤ 2
version_few version1 = omega arith
version_few version2 = omega arith

-- the parts of the header
has_common : (v : Version) (j : Job) (s : List ℕ) → Has s 0 (head_bytes v j) → Has s 0 (common_bytes v j)
unfolding head_bytes
has_common v j s h = has_left s 0 (common_bytes v j) (start_bytes v j.settings.start) h

has_start : (v : Version) (j : Job) (s : List ℕ) → Has s 0 (head_bytes v j) → Has s 6 (start_bytes v j.settings.start)
unfolding head_bytes common_bytes
has_start v j s h = has_right s 0 6 (common_bytes v j) (start_bytes v j.settings.start) (bytes_length 6 _) h

pub head_said : (v : Version) (j : Job) (s : List ℕ) → Bytes s → Has s 0 (head_bytes v j) → SettingsSayable j.settings → j.shape.count ≤ 8 → HeadSaid v j s
unfolding common_bytes packed
head_said v j s b h q few =
    let c = version_few v in
    let f = family_few j.settings.family in
    let k = link_few j.settings.link in
    let u = present_few j.weights in
    let o = present_few j.offset in
    let m = limit_code_lem j.settings.limit q.limit in
    let whole = has_number s 0 6 _ b (has_common v j s h) (omega (arith, q.few, q.columns, q.wish)) in
    let p9 = peel s 0 38 10 _ (limit_code j.settings.limit) whole m in
    let p8 = peel s 0 34 4 _ j.shape.count p9.0 (omega arith) in
    let p7 = peel s 0 29 5 _ j.settings.p p8.0 (omega (arith, q.columns)) in
    let p6 = peel s 0 16 13 _ j.settings.n p7.0 (omega (arith, q.few)) in
    let p5 = peel s 0 11 5 _ j.settings.n_agq p6.0 q.wish in
    let p4 = peel s 0 10 1 _ (present j.offset) p5.0 o in
    let p3 = peel s 0 9 1 _ (present j.weights) p4.0 u in
    let p2 = peel s 0 6 3 _ (link_code j.settings.link) p3.0 (omega arith) in
    let p1 = peel s 0 4 2 _ (family_code j.settings.family) p2.0 f in
    record {
      versioned = p1.0 ∙ zero-add (version_code v);
      family = p1.1;
      link = p2.1;
      weights = p3.1;
      offset = p4.1;
      wished = p5.1;
      n = p6.1;
      p = p7.1;
      count = p8.1;
      limit = p9.1;
    }

-- ---- the byte that version 2 has more
second_said : (j : Job) (s : List ℕ) → Bytes s → Has s 0 (head_bytes version2 j) → (start_field s ≡ start_code j.settings.start) × (bits_of s 49 7 ≡ 0)
unfolding start_bytes packed
second_said j s b h =
    let t = start_few j.settings.start in
    let whole = has_number s 6 1 _ b (has_start version2 j s h) (omega arith) in
    let p = peel s 48 1 7 _ 0 whole (omega arith) in
    (p.0 ∙ zero-add (start_code j.settings.start), p.1)

pub zeros_said : (v : Version) (j : Job) (s : List ℕ) → Bytes s → Has s 0 (head_bytes v j) → v ≡ version2 → bits_of s 49 7 ≡ 0
zeros_said version1 j s b h e = cc
zeros_said version2 j s b h e = (second_said j s b h).1

-- the start is read as it was written
pub start_said : (v : Version) (j : Job) (s : List ℕ) → Bytes s → Has s 0 (head_bytes v j) → version s ≡ version_code v → (v ≡ version1 → j.settings.start ≡ Usual) → start_in s ≡ j.settings.start
unfolding start_in
start_said version1 j s b h e u = rw e (sym (u refl))
start_said version2 j s b h e u = rw (e, (second_said j s b h).0) (start_again j.settings.start)

-- and the blocks are looked for behind the header
pub blocks_said : (v : Version) (s : List ℕ) → version s ≡ version_code v → blocks_at s ≡ head_length v
unfolding blocks_at
blocks_said version1 s e = rw e
blocks_said version2 s e = rw e
