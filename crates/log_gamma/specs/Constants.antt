-- The constants of ln_gamma by their bits, with the decimals of fdlibm's e_lgamma_r.c (musl 1.2.3, `lgamma_r.c`) above each. docs/ELEMENTARY.md has the method. Assumes nothing.
use Rattle.std.specs.Prelude.{Float}
use Rattle.base.specs.Number.{bits}

-- ---- around 2: fdlibm a0 to a11
-- 7.72156649015328655494e-02
abbrev pub a₀ : Float
a₀ = bits 0x3fb3_c467_e37d_b0c8

-- 3.22467033424113591611e-01
abbrev pub a₁ : Float
a₁ = bits 0x3fd4_a34c_c4a6_0fad

-- 6.73523010531292681824e-02
abbrev pub a₂ : Float
a₂ = bits 0x3fb1_3e00_1a55_62a7

-- 2.05808084325167332806e-02
abbrev pub a₃ : Float
a₃ = bits 0x3f95_1322_ac92_547b

-- 7.38555086081402883957e-03
abbrev pub a₄ : Float
a₄ = bits 0x3f7e_404f_b68f_efe8

-- 2.89051383673415629091e-03
abbrev pub a₅ : Float
a₅ = bits 0x3f67_add8_ccb7_926b

-- 1.19270763183362067845e-03
abbrev pub a₆ : Float
a₆ = bits 0x3f53_8a94_116f_3f5d

-- 5.10069792153511336608e-04
abbrev pub a₇ : Float
a₇ = bits 0x3f40_b6c6_89b9_9c00

-- 2.20862790713908385557e-04
abbrev pub a₈ : Float
a₈ = bits 0x3f2c_f2ec_ed10_e54d

-- 1.08011567247583939954e-04
abbrev pub a₉ : Float
a₉ = bits 0x3f1c_5088_987d_fb07

-- 2.52144565451257326939e-05
abbrev pub a₁₀ : Float
a₁₀ = bits 0x3efa_7074_428c_fa52

-- 4.48640949618915160150e-05
abbrev pub a₁₁ : Float
a₁₁ = bits 0x3f07_858e_90a4_5837

-- ---- around the least value: fdlibm tc, tf, tt, t0 to t14
-- where ln gamma is least, 1.46163214496836224576e+00
abbrev pub tc : Float
tc = bits 0x3ff7_62d8_6356_be3f

-- that less 1, exact: 0.46163214496836224576
abbrev pub tc₁ : Float
tc₁ = bits 0x3fdd_8b61_8d5a_f8fc

-- its least value, -1.21486290535849611461e-01
abbrev pub tf : Float
tf = bits 0xbfbf_19b9_bcc3_8a42

-- minus what tf lacks, -3.63867699703950536541e-18
abbrev pub tt₀ : Float
tt₀ = bits 0xbc50_c7ca_a48a_971f

-- 4.83836122723810047042e-01
abbrev pub t₀ : Float
t₀ = bits 0x3fde_f72b_c8ee_38a2

-- -1.47587722994593911752e-01
abbrev pub t₁ : Float
t₁ = bits 0xbfc2_e427_8dc6_c509

-- 6.46249402391333854778e-02
abbrev pub t₂ : Float
t₂ = bits 0x3fb0_8b42_94d5_419b

-- -3.27885410759859649565e-02
abbrev pub t₃ : Float
t₃ = bits 0xbfa0_c9a8_df35_b713

-- 1.79706750811820387126e-02
abbrev pub t₄ : Float
t₄ = bits 0x3f92_66e7_970a_f9ec

-- -1.03142241298341437450e-02
abbrev pub t₅ : Float
t₅ = bits 0xbf85_1f9f_ba91_ec6a

-- 6.10053870246291332635e-03
abbrev pub t₆ : Float
t₆ = bits 0x3f78_fce0_e370_e344

-- -3.68452016781138256760e-03
abbrev pub t₇ : Float
t₇ = bits 0xbf6e_2eff_b3e9_14d7

-- 2.25964780900612472250e-03
abbrev pub t₈ : Float
t₈ = bits 0x3f62_82d3_2e15_c915

-- -1.40346469989232843813e-03
abbrev pub t₉ : Float
t₉ = bits 0xbf56_fe8e_bf2d_1af1

-- 8.81081882437654011382e-04
abbrev pub t₁₀ : Float
t₁₀ = bits 0x3f4c_df0c_ef61_a8e9

-- -5.38595305356740546715e-04
abbrev pub t₁₁ : Float
t₁₁ = bits 0xbf41_a610_9c73_e0ec

-- 3.15632070903625950361e-04
abbrev pub t₁₂ : Float
t₁₂ = bits 0x3f34_af6d_6c0e_bbf7

-- -3.12754168375120860518e-04
abbrev pub t₁₃ : Float
t₁₃ = bits 0xbf34_7f24_ecc3_8c38

-- 3.35529192635519073543e-04
abbrev pub t₁₄ : Float
t₁₄ = bits 0x3f35_fd3e_e8c2_d3f4

-- ---- around 1: fdlibm u0 to u5 over v1 to v5
-- -7.72156649015328655494e-02
abbrev pub u₀ : Float
u₀ = bits 0xbfb3_c467_e37d_b0c8

-- 6.32827064025093366517e-01
abbrev pub u₁ : Float
u₁ = bits 0x3fe4_401e_8b00_5dff

-- 1.45492250137234768737e+00
abbrev pub u₂ : Float
u₂ = bits 0x3ff7_475c_d119_bd6f

-- 9.77717527963372745603e-01
abbrev pub u₃ : Float
u₃ = bits 0x3fef_4976_44ea_8450

-- 2.28963728064692451092e-01
abbrev pub u₄ : Float
u₄ = bits 0x3fcd_4eae_f601_0924

-- 1.33810918536787660377e-02
abbrev pub u₅ : Float
u₅ = bits 0x3f8b_678b_bf2b_ab09

-- 2.45597793713041134822e+00
abbrev pub v₁ : Float
v₁ = bits 0x4003_a5d7_c2bd_619c

-- 2.12848976379893395361e+00
abbrev pub v₂ : Float
v₂ = bits 0x4001_0725_a42b_18f5

-- 7.69285150456672783825e-01
abbrev pub v₃ : Float
v₃ = bits 0x3fe8_9dfb_e450_50af

-- 1.04222645593369134254e-01
abbrev pub v₄ : Float
v₄ = bits 0x3fba_ae55_d653_7c88

-- 3.21709242282423911810e-03
abbrev pub v₅ : Float
v₅ = bits 0x3f6a_5abb_57d0_cf61

-- ---- from 2 to 3: fdlibm s0 to s6 over r1 to r6
-- -7.72156649015328655494e-02
abbrev pub s₀ : Float
s₀ = bits 0xbfb3_c467_e37d_b0c8

-- 2.14982415960608852501e-01
abbrev pub s₁ : Float
s₁ = bits 0x3fcb_848b_36e2_0878

-- 3.25778796408930981787e-01
abbrev pub s₂ : Float
s₂ = bits 0x3fd4_d98f_4f13_9f59

-- 1.46350472652464452805e-01
abbrev pub s₃ : Float
s₃ = bits 0x3fc2_bb9c_bee5_f2f7

-- 2.66422703033638609560e-02
abbrev pub s₄ : Float
s₄ = bits 0x3f9b_481c_7e93_9961

-- 1.84028451407337715652e-03
abbrev pub s₅ : Float
s₅ = bits 0x3f5e_26b6_7368_f239

-- 3.19475326584100867617e-05
abbrev pub s₆ : Float
s₆ = bits 0x3f00_bfec_dd17_e945

-- 1.39200533467621045958e+00
abbrev pub r₁ : Float
r₁ = bits 0x3ff6_45a7_62c4_ab74

-- 7.21935547567138069525e-01
abbrev pub r₂ : Float
r₂ = bits 0x3fe7_1a18_93d3_dcdc

-- 1.71933865632803078993e-01
abbrev pub r₃ : Float
r₃ = bits 0x3fc6_01ed_ccfb_df27

-- 1.86459191715652901344e-02
abbrev pub r₄ : Float
r₄ = bits 0x3f93_17ea_742e_d475

-- 7.77942496381893596434e-04
abbrev pub r₅ : Float
r₅ = bits 0x3f49_7dda_ca41_a95b

-- 7.32668430744625636189e-06
abbrev pub r₆ : Float
r₆ = bits 0x3ede_baf7_a5b3_8140

-- ---- from 8 on: fdlibm w0 to w6
-- 4.18938533204672725052e-01
abbrev pub w₀ : Float
w₀ = bits 0x3fda_cfe3_90c9_7d69

-- 8.33333333333329678849e-02
abbrev pub w₁ : Float
w₁ = bits 0x3fb5_5555_5555_553b

-- -2.77777777728775536470e-03
abbrev pub w₂ : Float
w₂ = bits 0xbf66_c16c_16b0_2e5c

-- 7.93650558643019558500e-04
abbrev pub w₃ : Float
w₃ = bits 0x3f4a_019f_98cf_38b6

-- -5.95187557450339963135e-04
abbrev pub w₄ : Float
w₄ = bits 0xbf43_80cb_8c0f_e741

-- 8.36339918996282139126e-04
abbrev pub w₅ : Float
w₅ = bits 0x3f4b_67ba_4cda_d5d1

-- -1.63092934096575273989e-03
abbrev pub w₆ : Float
w₆ = bits 0xbf5a_b89d_0b9e_43e4
