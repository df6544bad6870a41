-- `blocks_coded::fit_coded` meets its contract: the settings are those that are named, and the answer is shown in plain numbers. Assumes nothing.
use Rattle.blocks_coded.specs.Plain.{fit_blocks_of}
use Rattle.blocks_coded.proofs.Shown.{shown_by_lem}
use Rattle.blocks_coded.proofs.fit_coded.Goals as goal

pub returns : goal.returns
unfolding fit_blocks_of
returns c = rw (← c.settings_of-settings.ensures) (shown_by_lem _ _ _ _ c.plain.ensures c.fit_blocks-answer.ensures)
