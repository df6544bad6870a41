-- exp, exp of two parts and ln at closed arguments, computed by the checker: for exp and ln what the published C answers there, bit for bit. Assumes nothing.
use Rattle.std.proofs.Common.{◌≡◌, refl}
use lib.Ieee.{of_bits, to_bits, of_int, lt, le, eq, add, sub, mul}
use Rattle.base.specs.Number.{bits, abs_f}
use Rattle.tabulated.specs.ExpTable.{exp_table, exp_row}
use Rattle.elementary.specs.Exp.{reduced, row_tail, scale_bits, excess, scaled, large, refitted, fitted, small, edge, ended, exp_main, above_zero, exp_two, exp_of}
use Rattle.tabulated.specs.LogTable.{log_table, log_row}
use Rattle.elementary.specs.LogPoly.{near_poly, near_sum, near_of, ln_sum}
use Rattle.elementary.specs.Log.{near_one, ln_near, ln_row, ln_main, ln_far, ln_of}

-- exp of 1, -0.3, -600.25, 709.5, -720.3, -745, 1e-20
exp_computed :
    (exp_of (bits 0x3ff0_0000_0000_0000) ≡ bits 0x4005_bf0a_8b14_5769) ×
    (exp_of (bits 0xbfd3_3333_3333_3333) ≡ bits 0x3fe7_b4c8_69c3_7c05) ×
    (exp_of (bits 0xc082_c200_0000_0000) ≡ bits 0x09d0_3fcf_33f2_b267) ×
    (exp_of (bits 0x4086_2c00_0000_0000) ≡ bits 0x7fe8_1e9b_4b52_d0c9) ×
    (exp_of (bits 0xc086_8266_6666_6666) ≡ bits 0x0000_0007_1844_d2b6) ×
    (exp_of (bits 0xc087_4800_0000_0000) ≡ bits 0x0000_0000_0000_0001) ×
    (exp_of (bits 0x3bc7_9ca1_0c92_4223) ≡ bits 0x3ff0_0000_0000_0000)
unfolding exp_of above_zero exp_main ended edge small fitted refitted large scaled excess scale_bits row_tail reduced exp_table exp_row abs_f of_bits to_bits lt add sub mul
exp_computed = (refl, refl, refl, refl, refl, refl, refl)

-- exp of -1 and 2^-16, -600.25 and -2^-20, -720.3 and 2^-17, -745 and -2^-16
exp_two_computed :
    (exp_two (bits 0xbff0_0000_0000_0000) (bits 0x3ef0_0000_0000_0000) ≡ bits 0x3fd7_8b6d_c18e_eb14) ×
    (exp_two (bits 0xc082_c200_0000_0000) (bits 0xbeb0_0000_0000_0000) ≡ bits 0x09d0_3fce_2ff5_c748) ×
    (exp_two (bits 0xc086_8266_6666_6666) (bits 0x3ee0_0000_0000_0000) ≡ bits 0x0000_0007_1848_5ed9) ×
    (exp_two (bits 0xc087_4800_0000_0000) (bits 0xbef0_0000_0000_0000) ≡ bits 0x0000_0000_0000_0001)
unfolding exp_two above_zero ended edge small fitted refitted scaled excess scale_bits row_tail reduced exp_table exp_row abs_f of_bits to_bits lt add sub mul
exp_two_computed = (refl, refl, refl, refl)

-- ln of 2, 10, 1.01, 0.95, 1e-310, 1e300
ln_computed :
    (ln_of (bits 0x4000_0000_0000_0000) ≡ bits 0x3fe6_2e42_fefa_39ef) ×
    (ln_of (bits 0x4024_0000_0000_0000) ≡ bits 0x4002_6bb1_bbb5_5516) ×
    (ln_of (bits 0x3ff0_28f5_c28f_5c29) ≡ bits 0x3f84_60d6_ccca_367c) ×
    (ln_of (bits 0x3fee_6666_6666_6666) ≡ bits 0xbfaa_431d_5bcc_193e) ×
    (ln_of (bits 0x0000_1268_8b70_e62b) ≡ bits 0xc086_4e69_394d_9508) ×
    (ln_of (bits 0x7e37_e43c_8800_759c) ≡ bits 0x4085_9634_47f8_7fb5)
unfolding ln_of ln_far ln_main ln_row ln_near near_one ln_sum near_of near_sum near_poly log_table log_row of_bits to_bits of_int lt le eq add sub mul
ln_computed = (refl, refl, refl, refl, refl, refl)
