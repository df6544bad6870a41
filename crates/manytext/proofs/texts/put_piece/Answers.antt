-- `manytext::put_piece` meets its contract: each kind of piece has its own text. Assumes nothing.
use Rattle.manytext.proofs.Written.{responses_text, refusal_text}
use Rattle.manytext.proofs.texts.put_piece.Goals as goal

pub returns-in-Refusal : goal.returns-in-Refusal
returns-in-Refusal c = refusal_text _ _ _ c.in-Refusal.is _ _ _ _ _ _ c.refused_line.ensures

pub returns-in-Responses : goal.returns-in-Responses
returns-in-Responses c = responses_text _ _ _ c.in-Responses.is _ _ _ _ _ _ c.put_part.ensures
