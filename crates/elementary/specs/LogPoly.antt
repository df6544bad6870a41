-- The two polynomials of ln, in the published order (ARM's optimized routines, musl 1.2.3, `log.c` and `log_data.c`). Assumes nothing.
use Rattle.std.specs.Prelude.{Float}
use Rattle.base.specs.Number.{◌⊕◌, ◌⊖◌, ◌⊗◌, bits}

-- ---- close to 1
-- the coefficient of r², -1/2
abbrev pub b₀ : Float
b₀ = bits 0xbfe0_0000_0000_0000

-- of r³
abbrev pub b₁ : Float
b₁ = bits 0x3fd5_5555_5555_5577

-- of r⁴
abbrev pub b₂ : Float
b₂ = bits 0xbfcf_ffff_ffff_fdcb

-- of r⁵
abbrev pub b₃ : Float
b₃ = bits 0x3fc9_9999_9995_dd0c

-- of r⁶
abbrev pub b₄ : Float
b₄ = bits 0xbfc5_5555_5567_45a7

-- of r⁷
abbrev pub b₅ : Float
b₅ = bits 0x3fc2_4924_a344_de30

-- of r⁸
abbrev pub b₆ : Float
b₆ = bits 0xbfbf_ffff_a442_3d65

-- of r⁹
abbrev pub b₇ : Float
b₇ = bits 0x3fbc_7184_282a_d6ca

-- of r¹⁰
abbrev pub b₈ : Float
b₈ = bits 0xbfb9_99eb_43b0_68ff

-- of r¹¹
abbrev pub b₉ : Float
b₉ = bits 0x3fb7_8182_f7af_d085

-- of r¹²
abbrev pub b₁₀ : Float
b₁₀ = bits 0xbfb5_5213_75d1_45cd

-- r³ (b₁ + b₂ r + .. + b₁₀ r⁹); r2 and r3 are r² and r³
unfoldable pub near_poly : Float → Float → Float → Float
near_poly r r2 r3 = r3 ⊗ (b₁ ⊕ r ⊗ b₂ ⊕ r2 ⊗ b₃ ⊕ r3 ⊗ (b₄ ⊕ r ⊗ b₅ ⊕ r2 ⊗ b₆ ⊕ r3 ⊗ (b₇ ⊕ r ⊗ b₈ ⊕ r2 ⊗ b₉ ⊕ r3 ⊗ b₁₀)))

-- y + (r - r²/2): h is the upper half of r's digits, so that h² is exact, and r² is h² + (r - h)(h + r)
unfoldable pub near_sum : Float → Float → Float
near_sum y r =
    let w = r ⊗ bits 0x41a0_0000_0000_0000 in
    let h = r ⊕ w ⊖ w in
    let v = h ⊗ h ⊗ b₀ in
    let hi = r ⊕ v in
    let lo = r ⊖ hi ⊕ v ⊕ b₀ ⊗ (r ⊖ h) ⊗ (h ⊕ r) in
    y ⊕ lo ⊕ hi

-- ln (1 + r) for r from -2^-4 to about 2^-4
unfoldable pub near_of : Float → Float
near_of r =
    let r2 = r ⊗ r in
    near_sum (near_poly r r2 (r ⊗ r2)) r

-- ---- elsewhere
-- ln 2, first part: its product with k is exact
abbrev pub log_ln2_hi : Float
log_ln2_hi = bits 0x3fe6_2e42_fefa_3800

-- ln 2, what the first part lacks
abbrev pub log_ln2_lo : Float
log_ln2_lo = bits 0x3d2e_f357_93c7_6730

-- the coefficient of r², near to -1/2
abbrev pub a₀ : Float
a₀ = bits 0xbfe0_0000_0000_0001

-- of r³
abbrev pub a₁ : Float
a₁ = bits 0x3fd5_5555_5551_305b

-- of r⁴
abbrev pub a₂ : Float
a₂ = bits 0xbfcf_ffff_ffeb_4590

-- of r⁵
abbrev pub a₃ : Float
a₃ = bits 0x3fc9_99b3_24f1_0111

-- of r⁶
abbrev pub a₄ : Float
a₄ = bits 0xbfc5_5575_e506_c89f

-- w + ln (1 + r) + k log_ln2_lo, hi and lo being the sum of w, r and k log_ln2_lo in two parts
unfoldable pub ln_sum : Float → Float → Float → Float
ln_sum k r w =
    let hi = w ⊕ r in
    let lo = w ⊖ hi ⊕ r ⊕ k ⊗ log_ln2_lo in
    let r2 = r ⊗ r in
    lo ⊕ r2 ⊗ a₀ ⊕ r ⊗ r2 ⊗ (a₁ ⊕ r ⊗ a₂ ⊕ r2 ⊗ (a₃ ⊕ r ⊗ a₄)) ⊕ hi
