-- Jobs read by computation: case J of document 01 whole, and each refusal at its byte. Assumes nothing.
use Prim.{tt}
use Rattle.std.specs.Prelude.{Some, Ok, Err}
use mathlib.Core.Path.{◌≡◌, refl}
use mathlib.Core.List.{List, [], ◌∷◌, ◌++◌}
use Prim.Native.Nat.{ℕ}
use lib.Ieee.{of_bits, to_bits}
use Rattle.base.specs.Number.{bits}
use Rattle.base.specs.List.{build}
use Rattle.base.specs.Sum.{all_to}
use Rattle.bits.specs.Bits.{bits_of, double_of}
use Rattle.model.specs.Names.{family_coded, link_coded, start_coded}
use Rattle.model.specs.Shape.{total_to, block_effects, block_thetas, good_block, good_shape}
use Rattle.model.specs.declared.names.Family.TheVariants.{Poisson}
use Rattle.model.specs.declared.names.Link.TheVariants.{Log}
use Rattle.model.specs.declared.names.Start.{Start}
use Rattle.model.specs.declared.names.Start.TheVariants.{Usual, Trials}
use Rattle.job.specs.Lists.{counts, join_to, laid}
use Rattle.job.specs.Format.{blocks_at, groups, effects_in, sizes_fit, row_at, start_of}
use Rattle.job.specs.Faults.{fault, demand, first, reaches, spare, common_fault, second_fault, head_fault, pair_fault, blocks_fault, entry_fault, entries_fault, row_fault, rows_fault, numbers_fault, body_fault, fault_of}
use Rattle.job.specs.Job.{family_from, link_from, limit_from, start_from, start_in, settings_of, columns_of, values_of, sparse_of, Job, sound, job_of, read_by, read_of}
use Rattle.job.specs.Write.{packed, bytes_of, present, limit_code, version1, version2, common_bytes, start_bytes, head_bytes, block_bytes, number_bytes, numbers_bytes, short_bytes, entry_bytes, row_bytes, job_bytes}

-- the doubles 1 and 2
abbrev one : List ℕ
one = 63 ∷ 240 ∷ 0 ∷ 0 ∷ 0 ∷ 0 ∷ 0 ∷ 0 ∷ []

abbrev two : List ℕ
two = 64 ∷ 0 ∷ 0 ∷ 0 ∷ 0 ∷ 0 ∷ 0 ∷ 0 ∷ []

-- what follows the limit in case J
abbrev rest : List ℕ
rest = 2 ∷ 32 ∷ one ++ two ++ one ++ (0 ∷ 8 ∷ 0 ∷ 0 ∷ one)

abbrev pub case_j : List ℕ
case_j = 21 ∷ 129 ∷ 0 ∷ 8 ∷ 68 ∷ 0 ∷ rest

-- "Poisson, log, L = 0": no weights, no offset, wish 1, n 1, p 1; one block of one group and one effect; doubles 1, 2, 1; Z' has one entry, 1 at column 0
abbrev pub started_j : Start → Job
started_j t =
    record {
      settings = record { family = Poisson; link = Log; n_agq = 1; limit = Some 0; n = 1; p = 1; rows = 1; entries = 1; start = t };
      shape = record { count = 1; m = 1 ∷ 0 ∷ 0 ∷ 0 ∷ 0 ∷ 0 ∷ 0 ∷ 0 ∷ []; k = 1 ∷ 0 ∷ 0 ∷ 0 ∷ 0 ∷ 0 ∷ 0 ∷ 0 ∷ [] };
      theta = bits 0x3ff0_0000_0000_0000 ∷ [];
      y = bits 0x4000_0000_0000_0000 ∷ [];
      weights = [];
      offset = [];
      x = bits 0x3ff0_0000_0000_0000 ∷ [];
      z = record { starts = 0 ∷ 1 ∷ []; columns = 0 ∷ []; values = bits 0x3ff0_0000_0000_0000 ∷ [] };
    }

abbrev pub job_j : Job
job_j = started_j Usual

pub case_j_read : read_of case_j ≡ sound job_j
unfolding bits_of total_to all_to block_effects block_thetas good_block good_shape counts join_to laid blocks_at groups effects_in sizes_fit row_at start_of demand first reaches spare common_fault second_fault head_fault pair_fault blocks_fault entry_fault entries_fault row_fault rows_fault numbers_fault body_fault fault_of double_of build family_coded link_coded family_from link_from limit_from start_from start_coded start_in settings_of columns_of values_of sparse_of job_of read_by read_of
case_j_read = refl

pub case_j_written : job_bytes version1 job_j ≡ case_j
unfolding join_to packed bytes_of present limit_code common_bytes start_bytes head_bytes block_bytes number_bytes numbers_bytes short_bytes entry_bytes row_bytes job_bytes to_bits of_bits
case_j_written = refl

-- case J as version 2, the byte b behind the limit
abbrev pub second_j : ℕ → List ℕ
second_j b = 37 ∷ 129 ∷ 0 ∷ 8 ∷ 68 ∷ 0 ∷ b ∷ rest

-- with the old start it is the same call, with R's the same but for the start
pub second_j_usual : read_of (second_j 0) ≡ sound job_j
unfolding bits_of total_to all_to block_effects block_thetas good_block good_shape counts join_to laid blocks_at groups effects_in sizes_fit row_at start_of demand first reaches spare common_fault second_fault head_fault pair_fault blocks_fault entry_fault entries_fault row_fault rows_fault numbers_fault body_fault fault_of double_of build family_coded link_coded family_from link_from limit_from start_from start_coded start_in settings_of columns_of values_of sparse_of job_of read_by read_of
second_j_usual = refl

pub second_j_trials : read_of (second_j 128) ≡ sound (started_j Trials)
unfolding bits_of total_to all_to block_effects block_thetas good_block good_shape counts join_to laid blocks_at groups effects_in sizes_fit row_at start_of demand first reaches spare common_fault second_fault head_fault pair_fault blocks_fault entry_fault entries_fault row_fault rows_fault numbers_fault body_fault fault_of double_of build family_coded link_coded family_from link_from limit_from start_from start_coded start_in settings_of columns_of values_of sparse_of job_of read_by read_of
second_j_trials = refl

pub second_j_written : (job_bytes version2 job_j ≡ second_j 0) × (job_bytes version2 (started_j Trials) ≡ second_j 128)
unfolding join_to packed bytes_of present limit_code common_bytes start_bytes head_bytes block_bytes number_bytes numbers_bytes short_bytes entry_bytes row_bytes job_bytes to_bits of_bits
second_j_written = (refl, refl)

-- nothing at all
empty : fault_of ([]) ≡ Err (fault 20 0)
unfolding bits_of total_to all_to block_effects good_block good_shape block_thetas counts laid blocks_at groups effects_in sizes_fit demand first reaches spare common_fault second_fault head_fault pair_fault blocks_fault entry_fault entries_fault row_fault rows_fault numbers_fault body_fault fault_of
empty = refl

-- cut in the first double
cut_double : fault_of (21 ∷ 129 ∷ 0 ∷ 8 ∷ 68 ∷ 0 ∷ 2 ∷ 32 ∷ 63 ∷ []) ≡ Err (fault 20 9)
unfolding bits_of total_to all_to block_effects good_block good_shape block_thetas counts laid blocks_at groups effects_in sizes_fit demand first reaches spare common_fault second_fault head_fault pair_fault blocks_fault entry_fault entries_fault row_fault rows_fault numbers_fault body_fault fault_of
cut_double = refl

-- a version is refused once its bits are there
version_0 : fault_of (5 ∷ []) ≡ Err (fault 21 0)
unfolding bits_of total_to all_to block_effects good_block good_shape block_thetas counts laid blocks_at groups effects_in sizes_fit demand first reaches spare common_fault second_fault head_fault pair_fault blocks_fault entry_fault entries_fault row_fault rows_fault numbers_fault body_fault fault_of
version_0 = refl

version_3 : fault_of (53 ∷ []) ≡ Err (fault 21 0)
unfolding bits_of total_to all_to block_effects good_block good_shape block_thetas counts laid blocks_at groups effects_in sizes_fit demand first reaches spare common_fault second_fault head_fault pair_fault blocks_fault entry_fault entries_fault row_fault rows_fault numbers_fault body_fault fault_of
version_3 = refl

-- version 2 is none of them, and is cut short where its start is missing
version_2 : fault_of (37 ∷ []) ≡ Err (fault 20 1)
unfolding bits_of total_to all_to block_effects good_block good_shape block_thetas counts laid blocks_at groups effects_in sizes_fit demand first reaches spare common_fault second_fault head_fault pair_fault blocks_fault entry_fault entries_fault row_fault rows_fault numbers_fault body_fault fault_of
version_2 = refl

cut_start : fault_of (37 ∷ 129 ∷ 0 ∷ 8 ∷ 68 ∷ 0 ∷ []) ≡ Err (fault 20 6)
unfolding bits_of total_to all_to block_effects good_block good_shape block_thetas counts laid blocks_at groups effects_in sizes_fit demand first reaches spare common_fault second_fault head_fault pair_fault blocks_fault entry_fault entries_fault row_fault rows_fault numbers_fault body_fault fault_of
cut_start = refl

-- its seven zero bits, the first and the last; a limit that is refused wins over them, they win over the blocks
spare_first : fault_of (second_j 64) ≡ Err (fault 22 6)
unfolding bits_of total_to all_to block_effects good_block good_shape block_thetas counts laid blocks_at groups effects_in sizes_fit demand first reaches spare common_fault second_fault head_fault pair_fault blocks_fault entry_fault entries_fault row_fault rows_fault numbers_fault body_fault fault_of
spare_first = refl

spare_last : fault_of (37 ∷ 129 ∷ 0 ∷ 8 ∷ 68 ∷ 0 ∷ 129 ∷ []) ≡ Err (fault 22 6)
unfolding bits_of total_to all_to block_effects good_block good_shape block_thetas counts laid blocks_at groups effects_in sizes_fit demand first reaches spare common_fault second_fault head_fault pair_fault blocks_fault entry_fault entries_fault row_fault rows_fault numbers_fault body_fault fault_of
spare_last = refl

limit_wins : fault_of (37 ∷ 129 ∷ 0 ∷ 8 ∷ 71 ∷ 233 ∷ 1 ∷ []) ≡ Err (fault 24 4)
unfolding bits_of total_to all_to block_effects good_block good_shape block_thetas counts laid blocks_at groups effects_in sizes_fit demand first reaches spare common_fault second_fault head_fault pair_fault blocks_fault entry_fault entries_fault row_fault rows_fault numbers_fault body_fault fault_of
limit_wins = refl

-- what follows is found a byte later than in version 1
later_block : fault_of (37 ∷ 129 ∷ 0 ∷ 8 ∷ 68 ∷ 0 ∷ 0 ∷ 0 ∷ 33 ∷ []) ≡ Err (fault 22 8)
unfolding bits_of total_to all_to block_effects good_block good_shape block_thetas counts laid blocks_at groups effects_in sizes_fit demand first reaches spare common_fault second_fault head_fault pair_fault blocks_fault entry_fault entries_fault row_fault rows_fault numbers_fault body_fault fault_of
later_block = refl

later_end : fault_of (second_j 0 ++ (0 ∷ [])) ≡ Err (fault 23 45)
unfolding bits_of total_to all_to block_effects good_block good_shape block_thetas counts laid blocks_at groups effects_in sizes_fit demand first reaches spare common_fault second_fault head_fault pair_fault blocks_fault entry_fault entries_fault row_fault rows_fault numbers_fault body_fault fault_of
later_end = refl

-- a link whose first bits are there is cut short
cut_link : fault_of (23 ∷ []) ≡ Err (fault 20 1)
unfolding bits_of total_to all_to block_effects good_block good_shape block_thetas counts laid blocks_at groups effects_in sizes_fit demand first reaches spare common_fault second_fault head_fault pair_fault blocks_fault entry_fault entries_fault row_fault rows_fault numbers_fault body_fault fault_of
cut_link = refl

-- link 7 once its bits are there
link_7 : fault_of (23 ∷ 129 ∷ []) ≡ Err (fault 24 0)
unfolding bits_of total_to all_to block_effects good_block good_shape block_thetas counts laid blocks_at groups effects_in sizes_fit demand first reaches spare common_fault second_fault head_fault pair_fault blocks_fault entry_fault entries_fault row_fault rows_fault numbers_fault body_fault fault_of
link_7 = refl

-- a limit whose first bits are there is cut short
cut_limit : fault_of (21 ∷ 129 ∷ 0 ∷ 8 ∷ 71 ∷ []) ≡ Err (fault 20 5)
unfolding bits_of total_to all_to block_effects good_block good_shape block_thetas counts laid blocks_at groups effects_in sizes_fit demand first reaches spare common_fault second_fault head_fault pair_fault blocks_fault entry_fault entries_fault row_fault rows_fault numbers_fault body_fault fault_of
cut_limit = refl

-- L 1000 is accepted, 1001 and 1022 are refused, 1023 is 'not given'
limit_1000 : fault_of (21 ∷ 129 ∷ 0 ∷ 8 ∷ 71 ∷ 232 ∷ rest) ≡ Ok tt
unfolding bits_of total_to all_to block_effects good_block good_shape block_thetas counts laid blocks_at groups effects_in sizes_fit demand first reaches spare common_fault second_fault head_fault pair_fault blocks_fault entry_fault entries_fault row_fault rows_fault numbers_fault body_fault fault_of
limit_1000 = refl

limit_1001 : fault_of (21 ∷ 129 ∷ 0 ∷ 8 ∷ 71 ∷ 233 ∷ rest) ≡ Err (fault 24 4)
unfolding bits_of total_to all_to block_effects good_block good_shape block_thetas counts laid blocks_at groups effects_in sizes_fit demand first reaches spare common_fault second_fault head_fault pair_fault blocks_fault entry_fault entries_fault row_fault rows_fault numbers_fault body_fault fault_of
limit_1001 = refl

limit_1022 : fault_of (21 ∷ 129 ∷ 0 ∷ 8 ∷ 71 ∷ 254 ∷ []) ≡ Err (fault 24 4)
unfolding bits_of total_to all_to block_effects good_block good_shape block_thetas counts laid blocks_at groups effects_in sizes_fit demand first reaches spare common_fault second_fault head_fault pair_fault blocks_fault entry_fault entries_fault row_fault rows_fault numbers_fault body_fault fault_of
limit_1022 = refl

limit_1023 : fault_of (21 ∷ 129 ∷ 0 ∷ 8 ∷ 71 ∷ 255 ∷ rest) ≡ Ok tt
unfolding bits_of total_to all_to block_effects good_block good_shape block_thetas counts laid blocks_at groups effects_in sizes_fit demand first reaches spare common_fault second_fault head_fault pair_fault blocks_fault entry_fault entries_fault row_fault rows_fault numbers_fault body_fault fault_of
limit_1023 = refl

-- no blocks, and a block of no groups
no_blocks : fault_of (21 ∷ 129 ∷ 0 ∷ 8 ∷ 64 ∷ 0 ∷ []) ≡ Err (fault 1 0)
unfolding bits_of total_to all_to block_effects good_block good_shape block_thetas counts laid blocks_at groups effects_in sizes_fit demand first reaches spare common_fault second_fault head_fault pair_fault blocks_fault entry_fault entries_fault row_fault rows_fault numbers_fault body_fault fault_of
no_blocks = refl

no_groups : fault_of (21 ∷ 129 ∷ 0 ∷ 8 ∷ 68 ∷ 0 ∷ 0 ∷ 32 ∷ []) ≡ Err (fault 1 0)
unfolding bits_of total_to all_to block_effects good_block good_shape block_thetas counts laid blocks_at groups effects_in sizes_fit demand first reaches spare common_fault second_fault head_fault pair_fault blocks_fault entry_fault entries_fault row_fault rows_fault numbers_fault body_fault fault_of
no_groups = refl

-- a zero bit of a block wins over 1, one of a row is found at its byte
spare_block : fault_of (21 ∷ 129 ∷ 0 ∷ 8 ∷ 68 ∷ 0 ∷ 0 ∷ 33 ∷ []) ≡ Err (fault 22 7)
unfolding bits_of total_to all_to block_effects good_block good_shape block_thetas counts laid blocks_at groups effects_in sizes_fit demand first reaches spare common_fault second_fault head_fault pair_fault blocks_fault entry_fault entries_fault row_fault rows_fault numbers_fault body_fault fault_of
spare_block = refl

spare_row : fault_of (21 ∷ 129 ∷ 0 ∷ 8 ∷ 68 ∷ 0 ∷ 2 ∷ 32 ∷ one ++ two ++ one ++ (0 ∷ 12 ∷ [])) ≡ Err (fault 22 33)
unfolding bits_of total_to all_to block_effects good_block good_shape block_thetas counts laid blocks_at groups effects_in sizes_fit demand first reaches spare common_fault second_fault head_fault pair_fault blocks_fault entry_fault entries_fault row_fault rows_fault numbers_fault body_fault fault_of
spare_row = refl

-- a byte too many
left_over : fault_of (case_j ++ (0 ∷ [])) ≡ Err (fault 23 44)
unfolding bits_of total_to all_to block_effects good_block good_shape block_thetas counts laid blocks_at groups effects_in sizes_fit demand first reaches spare common_fault second_fault head_fault pair_fault blocks_fault entry_fault entries_fault row_fault rows_fault numbers_fault body_fault fault_of
left_over = refl
