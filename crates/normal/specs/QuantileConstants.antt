-- The constants of norm_quantile by their bits, with the decimals of Cephes' ndtri.c above each; the highest power first, each Q with a leading 1 that is not stored. docs/ELEMENTARY.md has the method. Assumes nothing.
use Rattle.std.specs.Prelude.{Float}
use Rattle.base.specs.Number.{bits}

-- ---- the middle: Cephes P0, Q0
-- -5.99633501014107895267E1
abbrev pub p0₀ : Float
p0₀ = bits 0xc04d_fb4f_0e5e_142d

-- 9.80010754185999661536E1
abbrev pub p0₁ : Float
p0₁ = bits 0x4058_8011_9ea1_edd9

-- -5.66762857469070293439E1
abbrev pub p0₂ : Float
p0₂ = bits 0xc04c_5690_8806_dbba

-- 1.39312609387279679503E1
abbrev pub p0₃ : Float
p0₃ = bits 0x402b_dcce_3bd7_c1fd

-- -1.23916583867381258016E0
abbrev pub p0₄ : Float
p0₄ = bits 0xbff3_d39f_8ef6_ca7e

-- 1.95448858338141759834E0
abbrev pub q0₀ : Float
q0₀ = bits 0x3fff_4595_d220_74f9

-- 4.67627912898881538453E0
abbrev pub q0₁ : Float
q0₁ = bits 0x4012_b482_8417_e5b6

-- 8.63602421390890590575E1
abbrev pub q0₂ : Float
q0₂ = bits 0x4055_970e_350b_81d4

-- -2.25462687854119370527E2
abbrev pub q0₃ : Float
q0₃ = bits 0xc06c_2ece_56c2_365f

-- 2.00260212380060660359E2
abbrev pub q0₄ : Float
q0₄ = bits 0x4069_0853_a8e9_cbff

-- -8.20372256168333339912E1
abbrev pub q0₅ : Float
q0₅ = bits 0xc054_8261_e78d_b7d9

-- 1.59056225126211695515E1
abbrev pub q0₆ : Float
q0₆ = bits 0x402f_cfad_c104_7563

-- -1.18331621121330003142E0
abbrev pub q0₇ : Float
q0₇ = bits 0xbff2_eedc_fabf_cdd5

-- sqrt(2π): 2.50662827463100050242E0
abbrev pub root_two_pi : Float
root_two_pi = bits 0x4004_0d93_1ff6_2706

-- e^-2: 0.13533528323661269189
abbrev pub far_tail : Float
far_tail = bits 0x3fc1_52aa_a3bf_81cc

-- ---- sqrt(-2 ln t) from 2 to 8: Cephes P1, Q1
-- 4.05544892305962419923E0
abbrev pub p1₀ : Float
p1₀ = bits 0x4010_38c7_9a3c_8edb

-- 3.15251094599893866154E1
abbrev pub p1₁ : Float
p1₁ = bits 0x403f_866d_92d5_7982

-- 5.71628192246421288162E1
abbrev pub p1₂ : Float
p1₂ = bits 0x404c_94d7_42a6_7fbf

-- 4.40805073893200834700E1
abbrev pub p1₃ : Float
p1₃ = bits 0x4046_0a4e_10ee_1ba9

-- 1.46849561928858024014E1
abbrev pub p1₄ : Float
p1₄ = bits 0x402d_5eb2_93ff_463e

-- 2.18663306850790267539E0
abbrev pub p1₅ : Float
p1₅ = bits 0x4001_7e39_7a6c_bfa1

-- -1.40256079171354495875E-1
abbrev pub p1₆ : Float
p1₆ = bits 0xbfc1_f3e9_448d_9677

-- -3.50424626827848203418E-2
abbrev pub p1₇ : Float
p1₇ = bits 0xbfa1_f115_ee63_41c7

-- -8.57456785154685413611E-4
abbrev pub p1₈ : Float
p1₈ = bits 0xbf4c_18de_6ccb_e78f

-- 1.57799883256466749731E1
abbrev pub q1₀ : Float
q1₀ = bits 0x402f_8f5a_a13b_d41b

-- 4.53907635128879210584E1
abbrev pub q1₁ : Float
q1₁ = bits 0x4046_b204_89ee_296f

-- 4.13172038254672030440E1
abbrev pub q1₂ : Float
q1₂ = bits 0x4044_a89a_228c_461c

-- 1.50425385692907503408E1
abbrev pub q1₃ : Float
q1₃ = bits 0x402e_15c7_9d87_d845

-- 2.50464946208309415979E0
abbrev pub q1₄ : Float
q1₄ = bits 0x4004_0985_a83c_ba20

-- -1.42182922854787788574E-1
abbrev pub q1₅ : Float
q1₅ = bits 0xbfc2_330c_cddb_0232

-- -3.80806407691578277194E-2
abbrev pub q1₆ : Float
q1₆ = bits 0xbfa3_7f4e_456d_b31d

-- -9.33259480895457427372E-4
abbrev pub q1₇ : Float
q1₇ = bits 0xbf4e_94bf_797d_061e

-- ---- sqrt(-2 ln t) from 8 on: Cephes P2, Q2
-- 3.23774891776946035970E0
abbrev pub p2₀ : Float
p2₀ = bits 0x4009_e6e8_e793_d574

-- 6.91522889068984211695E0
abbrev pub p2₁ : Float
p2₁ = bits 0x401b_a931_c327_780b

-- 3.93881025292474443415E0
abbrev pub p2₂ : Float
p2₂ = bits 0x400f_82ae_f32b_b0ac

-- 1.33303460815807542389E0
abbrev pub p2₃ : Float
p2₃ = bits 0x3ff5_541c_18e7_9a0c

-- 2.01485389549179081538E-1
abbrev pub p2₄ : Float
p2₄ = bits 0x3fc9_ca45_f35e_2651

-- 1.23716634817820021358E-2
abbrev pub p2₅ : Float
p2₅ = bits 0x3f89_5650_9069_354d

-- 3.01581553508235416007E-4
abbrev pub p2₆ : Float
p2₆ = bits 0x3f33_c3b2_e8ce_1812

-- 2.65806974686737550832E-6
abbrev pub p2₇ : Float
p2₇ = bits 0x3ec6_4c29_4c0c_2234

-- 6.23974539184983293730E-9
abbrev pub p2₈ : Float
p2₈ = bits 0x3e3a_ccac_3058_8ff9

-- 6.02427039364742014255E0
abbrev pub q2₀ : Float
q2₀ = bits 0x4018_18da_568b_e828

-- 3.67983563856160859403E0
abbrev pub q2₁ : Float
q2₁ = bits 0x400d_704d_aad2_3816

-- 1.37702099489081330271E0
abbrev pub q2₂ : Float
q2₂ = bits 0x3ff6_0847_2aaf_6200

-- 2.16236993594496635890E-1
abbrev pub q2₃ : Float
q2₃ = bits 0x3fcb_ada7_5fd6_3c9b

-- 1.34204006088543189037E-2
abbrev pub q2₄ : Float
q2₄ = bits 0x3f8b_7c27_adb6_c78b

-- 3.28014464682127739104E-4
abbrev pub q2₅ : Float
q2₅ = bits 0x3f35_7f2b_65ff_2903

-- 2.89247864745380683936E-6
abbrev pub q2₆ : Float
q2₆ = bits 0x3ec8_438c_f3f6_ccf7

-- 6.79019408009981274425E-9
abbrev pub q2₇ : Float
q2₇ = bits 0x3e3d_29e5_b876_6b3d
