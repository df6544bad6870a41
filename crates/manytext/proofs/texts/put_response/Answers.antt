-- `manytext::put_response` meets its contract: the text stands behind the line, which leaves it room. Assumes nothing.
use native.Mathlib.Omega.{arith}
use mathlib.Core.Path.{refl}
use Rattle.manytext.specs.Text.{response_text}
use Rattle.manytext.proofs.Written.{line_few, text_few, response_written}
use Rattle.manytext.proofs.texts.put_response.Goals as goal

pub slice_bounds-put_flat-count : goal.slice_bounds-put_flat-count
slice_bounds-put_flat-count c = omega (arith, c.response_line-at.ensures.0, line_few c.args.i, c.response_line-at.auto.out, c.requires.0)

pub slice_bounds-put_flat-start : goal.slice_bounds-put_flat-start
slice_bounds-put_flat-start c = omega (arith, c.response_line-at.ensures.0, line_few c.args.i, c.response_line-at.auto.out, c.requires.0)

pub put_flat-n-requires : goal.put_flat-n-requires
put_flat-n-requires c = (omega (arith, c.response_line-at.ensures.0, line_few c.args.i, c.response_line-at.auto.out, c.requires.0), c.requires.1, c.requires.3)

pub overflow_add-result : goal.overflow_add-result
overflow_add-result c =
    omega (
      arith,
      c.put_flat-n.ensures.0,
      text_few _ _ _ c.put_flat-n.ensures.1 c.put_flat-n.auto.out,
      c.response_line-at.ensures.0,
      line_few c.args.i,
    )

pub returns : goal.returns
unfolding response_text
returns c =
    rw (← c.answer_from-answer.ensures)
    (response_written c.args.i _ _ _ _ _ _ _ _ (omega (arith, c.requires.0)) c.response_line-at.ensures c.response_line-at.auto.out c.put_flat-n.ensures c.put_flat-n.auto.out refl refl)
