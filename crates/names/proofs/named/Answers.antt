-- `names::named` meets its contract: no link before the one to come has the name.
use mathlib.Core.Path.{refl, sym}
use mathlib.Core.Bool.{true≢false}
use mathlib.Core.List.{map}
use native.Mathlib.Omega.{arith}
use Rattle.model.specs.declared.names.Link.TheVariants.{Logit}
use Rattle.names.specs.Names.{all_links, lower_of}
use Rattle.names.proofs.Spelled.{named_here, named_behind, named_by_none}
use Rattle.names.proofs.named.Goals as goal

pub returns-then-eq_ignore_ascii_case : goal.returns-then-eq_ignore_ascii_case
returns-then-eq_ignore_ascii_case c = named_here all_links c.loop-link.link-index Logit c.args.word.now _ c.text.ensures (omega arith) (c.if-eq_ignore_ascii_case.ensures.test.0 refl) c.loop-link.invariant

pub loop-link-preserved : goal.loop-link-preserved
loop-link-preserved c = named_behind all_links c.loop-link.link-index Logit c.args.word.now _ c.text.ensures (omega arith) (λ e. true≢false (sym (c.if-eq_ignore_ascii_case.ensures.test.1 e))) c.loop-link.invariant

pub returns : goal.returns
returns c = named_by_none all_links c.loop-link.link-index (map lower_of c.args.word.now) (omega arith) c.loop-link.invariant
