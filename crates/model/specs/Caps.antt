-- The caps of one inner fit by its limit, link and shape. The request, demand 3; the tries of a solve also in document 01, "The inner fit"; document 02, P9. Assumes nothing.
use Rattle.std.specs.Prelude.{cond, ℕ, ◌*◌, eqb}
use Rattle.base.specs.Sum.{◌!!◌}
use Rattle.model.specs.Names.{is_inverse}
use Rattle.model.specs.declared.counts.Account.{Account}
use Rattle.model.specs.declared.names.Link.{Link}
use Rattle.model.specs.declared.sizes.Shape.{Shape}

-- the most tries of one solve
unfoldable pub tries_cap : Link → ℕ
tries_cap link = cond (is_inverse link) 100 25

-- the most points: for each group of a single block 11 where it has one effect and 400 where it has more, and 7,000 in all over several blocks
unfoldable pub points_cap : Shape → ℕ
points_cap s = cond (eqb s.count 1) (cond (eqb (s.k !! 0) 1) 11 400 * (s.m !! 0)) 7000

-- the most that an inner fit of at most L iterations can do; each refused part is capped as the tries, the accepted as the solves (document 02, P9)
unfoldable pub inner_cap_of : Shape → Link → ℕ → Account
inner_cap_of s link L =
    record {
      fits = 1;
      solves = L;
      tries = tries_cap link * L;
      points = points_cap s;
      eta = tries_cap link * L;
      mean = tries_cap link * L;
      pwrss = tries_cap link * L;
      ok = L;
    }
