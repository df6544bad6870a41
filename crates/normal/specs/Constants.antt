-- The constants of the normal tail and density by their bits, with the decimals of fdlibm's s_erf.c (musl 1.2.3, `erf.c`) above each, or with what they are. docs/ELEMENTARY.md has the method. Assumes nothing.
use Rattle.std.specs.Prelude.{Float}
use Rattle.base.specs.Number.{bits}

-- ---- ours: numbers cut at a binary place, so that a product or a sum is exact, and what they lack
-- 1.5 · 2^32 = 6442450944: a sum with it has no digits below 2^-20
abbrev pub grid : Float
grid = bits 0x41f8_0000_0000_0000

-- ln sqrt(2π), its digits down to 2^-33: 0.918938533170148730278015136719
abbrev pub pdf_hi : Float
pdf_hi = bits 0x3fed_67f1_c860_0000

-- what pdf_hi lacks: 3.45240115023146e-11
abbrev pub pdf_lo : Float
pdf_lo = bits 0x3dc2_fad2_9a4a_5e48

-- 0.5625 + ln 2 / 2, its digits down to 2^-33: 0.909073590184561908245086669922
abbrev pub tail_hi : Float
tail_hi = bits 0x3fed_1721_7f70_0000

-- what tail_hi lacks: 9.541074646352939e-11
abbrev pub tail_lo : Float
tail_lo = bits 0x3dda_39ef_3579_3c76

-- (sqrt 2 - 1) / 2, its digits down to 2^-34: 0.207106781133916229009628295898
abbrev pub k₁ : Float
k₁ = bits 0x3fca_8279_99e0_0000

-- what k₁ lacks: 5.263129539121607e-11
abbrev pub k₂ : Float
k₂ = bits 0x3dcc_ef32_422c_bec5

-- the multiple of 2^-10 nearest to pp₁: -0.3251953125
abbrev pub pp₁_hi : Float
pp₁_hi = bits 0xbfd4_d000_0000_0000

-- what it lacks of pp₁, exact: 0.00015320525299850063
abbrev pub pp₁_lo : Float
pp₁_lo = bits 0x3f24_14b7_1a37_6800

-- 1 less fdlibm's erx, 8.45062911510467529297e-01, exact; near to erfc 1
abbrev pub erfc_one : Float
erfc_one = bits 0x3fc3_d4fa_8000_0000

-- ---- erf w / w - 1 up to w = 0.84375: fdlibm pp0 to pp4, qq1 to qq5
-- 1.28379167095512558561e-01
abbrev pub pp₀ : Float
pp₀ = bits 0x3fc0_6eba_8214_db68

-- -3.25042107247001499370e-01
abbrev pub pp₁ : Float
pp₁ = bits 0xbfd4_cd7d_691c_b913

-- -2.84817495755985104766e-02
abbrev pub pp₂ : Float
pp₂ = bits 0xbf9d_2a51_dbd7_194f

-- -5.77027029648944159157e-03
abbrev pub pp₃ : Float
pp₃ = bits 0xbf77_a291_2366_68e4

-- -2.37630166566501626084e-05
abbrev pub pp₄ : Float
pp₄ = bits 0xbef8_ead6_1200_16ac

-- 3.97917223959155352819e-01
abbrev pub qq₁ : Float
qq₁ = bits 0x3fd9_7779_cdda_dc09

-- 6.50222499887672944485e-02
abbrev pub qq₂ : Float
qq₂ = bits 0x3fb0_a54c_5536_ceba

-- 5.08130628187576562776e-03
abbrev pub qq₃ : Float
qq₃ = bits 0x3f74_d022_c4d3_6b0f

-- 1.32494738004321644526e-04
abbrev pub qq₄ : Float
qq₄ = bits 0x3f21_5dc9_221c_1a10

-- -3.96022827877536812320e-06
abbrev pub qq₅ : Float
qq₅ = bits 0xbed0_9c43_42a2_6120

-- ---- erf (1 + u) - 0.845..: fdlibm pa0 to pa6, qa1 to qa6
-- -2.36211856075265944077e-03
abbrev pub pa₀ : Float
pa₀ = bits 0xbf63_59b8_bef7_7538

-- 4.14856118683748331666e-01
abbrev pub pa₁ : Float
pa₁ = bits 0x3fda_8d00_ad92_b34d

-- -3.72207876035701323847e-01
abbrev pub pa₂ : Float
pa₂ = bits 0xbfd7_d240_fbb8_c3f1

-- 3.18346619901161753674e-01
abbrev pub pa₃ : Float
pa₃ = bits 0x3fd4_5fca_8051_20e4

-- -1.10894694282396677476e-01
abbrev pub pa₄ : Float
pa₄ = bits 0xbfbc_6398_3d3e_28ec

-- 3.54783043256182359371e-02
abbrev pub pa₅ : Float
pa₅ = bits 0x3fa2_2a36_5997_95eb

-- -2.16637559486879084300e-03
abbrev pub pa₆ : Float
pa₆ = bits 0xbf61_bf38_0a96_073f

-- 1.06420880400844228286e-01
abbrev pub qa₁ : Float
qa₁ = bits 0x3fbb_3e66_18ee_e323

-- 5.40397917702171048937e-01
abbrev pub qa₂ : Float
qa₂ = bits 0x3fe1_4af0_92eb_6f33

-- 7.18286544141962662868e-02
abbrev pub qa₃ : Float
qa₃ = bits 0x3fb2_635c_d99f_e9a7

-- 1.26171219808761642112e-01
abbrev pub qa₄ : Float
qa₄ = bits 0x3fc0_2660_e763_351f

-- 1.36370839120290507362e-02
abbrev pub qa₅ : Float
qa₅ = bits 0x3f8b_edc2_6b51_dd1c

-- 1.19844998467991074170e-02
abbrev pub qa₆ : Float
qa₆ = bits 0x3f88_8b54_5735_151d

-- ---- the exponent of erfc up to w = 1/0.35: fdlibm ra0 to ra7, sa1 to sa8
-- -9.86494403484714822705e-03
abbrev pub ra₀ : Float
ra₀ = bits 0xbf84_3412_600d_6435

-- -6.93858572707181764372e-01
abbrev pub ra₁ : Float
ra₁ = bits 0xbfe6_3416_e4ba_7360

-- -1.05586262253232909814e+01
abbrev pub ra₂ : Float
ra₂ = bits 0xc025_1e04_41b0_e726

-- -6.23753324503260060396e+01
abbrev pub ra₃ : Float
ra₃ = bits 0xc04f_300a_e4cb_a38d

-- -1.62396669462573470355e+02
abbrev pub ra₄ : Float
ra₄ = bits 0xc064_4cb1_8428_2266

-- -1.84605092906711035994e+02
abbrev pub ra₅ : Float
ra₅ = bits 0xc067_135c_ebcc_abb2

-- -8.12874355063065934246e+01
abbrev pub ra₆ : Float
ra₆ = bits 0xc054_5265_57e4_d2f2

-- -9.81432934416914548592e+00
abbrev pub ra₇ : Float
ra₇ = bits 0xc023_a0ef_c69a_c25c

-- 1.96512716674392571292e+01
abbrev pub sa₁ : Float
sa₁ = bits 0x4033_a6b9_bd70_7687

-- 1.37657754143519042600e+02
abbrev pub sa₂ : Float
sa₂ = bits 0x4061_350c_526a_e721

-- 4.34565877475229228821e+02
abbrev pub sa₃ : Float
sa₃ = bits 0x407b_290d_d58a_1a71

-- 6.45387271733267880336e+02
abbrev pub sa₄ : Float
sa₄ = bits 0x4084_2b19_21ec_2868

-- 4.29008140027567833386e+02
abbrev pub sa₅ : Float
sa₅ = bits 0x407a_d021_5770_0314

-- 1.08635005541779435134e+02
abbrev pub sa₆ : Float
sa₆ = bits 0x405b_28a3_ee48_ae2c

-- 6.57024977031928170135e+00
abbrev pub sa₇ : Float
sa₇ = bits 0x401a_47ef_8e48_4a93

-- -6.04244152148580987438e-02
abbrev pub sa₈ : Float
sa₈ = bits 0xbfae_eff2_ee74_9a62

-- ---- the exponent beyond: fdlibm rb0 to rb6, sb1 to sb7
-- -9.86494292470009928597e-03
abbrev pub rb₀ : Float
rb₀ = bits 0xbf84_3412_39e8_6f4a

-- -7.99283237680523006574e-01
abbrev pub rb₁ : Float
rb₁ = bits 0xbfe9_93ba_70c2_85de

-- -1.77579549177547519889e+01
abbrev pub rb₂ : Float
rb₂ = bits 0xc031_c209_555f_995a

-- -1.60636384855821916062e+02
abbrev pub rb₃ : Float
rb₃ = bits 0xc064_145d_43c5_ed98

-- -6.37566443368389627722e+02
abbrev pub rb₄ : Float
rb₄ = bits 0xc083_ec88_1375_f228

-- -1.02509513161107724954e+03
abbrev pub rb₅ : Float
rb₅ = bits 0xc090_0461_6a2e_5992

-- -4.83519191608651397019e+02
abbrev pub rb₆ : Float
rb₆ = bits 0xc07e_384e_9bdc_383f

-- 3.03380607434824582924e+01
abbrev pub sb₁ : Float
sb₁ = bits 0x403e_568b_261d_5190

-- 3.25792512996573918826e+02
abbrev pub sb₂ : Float
sb₂ = bits 0x4074_5cae_221b_9f0a

-- 1.53672958608443695994e+03
abbrev pub sb₃ : Float
sb₃ = bits 0x4098_02eb_189d_5118

-- 3.19985821950859553908e+03
abbrev pub sb₄ : Float
sb₄ = bits 0x40a8_ffb7_688c_246a

-- 2.55305040643316442583e+03
abbrev pub sb₅ : Float
sb₅ = bits 0x40a3_f219_cedf_3be6

-- 4.74528541206955367215e+02
abbrev pub sb₆ : Float
sb₆ = bits 0x407d_a874_e79f_e763

-- -2.24409524465858183362e+01
abbrev pub sb₇ : Float
sb₇ = bits 0xc036_70e2_4271_2d62
