-- The Gauss-Hermite rules as printed in the Rust, by their bits. Document 01, module 2. Assumes nothing.
use Rattle.std.specs.Prelude.{List, [], ◌∷◌, ◌++◌, ◌-◌, length, replicate, Float}
use Rattle.base.specs.Number.{bits, zero_f}
use Rattle.quadrature.specs.declared.orders.Order.{Order}
use Rattle.quadrature.specs.declared.orders.Order.TheVariants.{Three, Five, Seven, Nine, Eleven}
use Rattle.quadrature.specs.declared.rules.Rule.{Rule}
use Rattle.quadrature.specs.Orders.{size_of}

-- the nodes of a rule, rising
unfoldable pub nodes_of : Order → List Float
nodes_of Three =
    bits 0xbffb_b67a_e858_4caa ∷ bits 0x0000_0000_0000_0000 ∷ bits 0x3ffb_b67a_e858_4caa ∷ []
nodes_of Five =
    bits 0xc006_db13_1839_e414 ∷ bits 0xbff5_b0a5_13c9_7441 ∷ bits 0x0000_0000_0000_0000 ∷ bits 0x3ff5_b0a5_13c9_7441 ∷
    bits 0x4006_db13_1839_e414 ∷ []
nodes_of Seven =
    bits 0xc00e_00e6_89ea_0325 ∷ bits 0xc002_ef1f_8ed4_d738 ∷ bits 0xbff2_7871_ca8b_bf03 ∷ bits 0x0000_0000_0000_0000 ∷
    bits 0x3ff2_7871_ca8b_bf03 ∷ bits 0x4002_ef1f_8ed4_d738 ∷ bits 0x400e_00e6_89ea_0325 ∷ []
nodes_of Nine =
    bits 0xc012_0d0d_4069_d86c ∷ bits 0xc009_a4b7_f607_58f2 ∷ bits 0xc000_9d62_7919_7ada ∷ bits 0xbff0_5f41_54b6_bccf ∷
    bits 0x0000_0000_0000_0000 ∷ bits 0x3ff0_5f41_54b6_bccf ∷ bits 0x4000_9d62_7919_7ada ∷ bits 0x4009_a4b7_f607_58f2 ∷
    bits 0x4012_0d0d_4069_d86c ∷ []
nodes_of Eleven =
    bits 0xc014_c083_6499_312f ∷ bits 0xc00f_7d44_eb09_d820 ∷ bits 0xc006_ebc5_b10f_d01a ∷ bits 0xbffe_043d_4c1b_73c5 ∷
    bits 0xbfed_b94b_79c0_a3ad ∷ bits 0x0000_0000_0000_0000 ∷ bits 0x3fed_b94b_79c0_a3ad ∷ bits 0x3ffe_043d_4c1b_73c5 ∷
    bits 0x4006_ebc5_b10f_d01a ∷ bits 0x400f_7d44_eb09_d820 ∷ bits 0x4014_c083_6499_312f ∷ []

-- its weights
unfoldable pub weights_of : Order → List Float
weights_of Three =
    bits 0x3fc5_5555_5555_5556 ∷ bits 0x3fe5_5555_5555_5554 ∷ bits 0x3fc5_5555_5555_5556 ∷ []
weights_of Five =
    bits 0x3f87_0e20_2beb_e3a8 ∷ bits 0x3fcc_6cfb_db1f_1fa2 ∷ bits 0x3fe1_1111_1111_1111 ∷ bits 0x3fcc_6cfb_db1f_1fa2 ∷
    bits 0x3f87_0e20_2beb_e3a8 ∷ []
weights_of Seven =
    bits 0x3f41_f736_6724_faa4 ∷ bits 0x3f9f_7ecb_a63d_3cb1 ∷ bits 0x3fce_bc5b_378f_5f53 ∷ bits 0x3fdd_41d4_1d41_d41d ∷
    bits 0x3fce_bc5b_378f_5f53 ∷ bits 0x3f9f_7ecb_a63d_3cb1 ∷ bits 0x3f41_f736_6724_faa4 ∷ []
weights_of Nine =
    bits 0x3ef7_6e6a_b51a_9114 ∷ bits 0x3f66_d940_d846_8e10 ∷ bits 0x3fa9_8ea4_ad2e_4eb0 ∷ bits 0x3fcf_3e96_43fc_092d ∷
    bits 0x3fda_01a0_1a01_a01b ∷ bits 0x3fcf_3e96_43fc_092d ∷ bits 0x3fa9_8ea4_ad2e_4eb0 ∷ bits 0x3f66_d940_d846_8e10 ∷
    bits 0x3ef7_6e6a_b51a_9114 ∷ []
weights_of Eleven =
    bits 0x3eab_409d_a81c_1142 ∷ bits 0x3f29_a5a9_1520_0b1d ∷ bits 0x3f7b_86ba_d4e7_1d11 ∷ bits 0x3fb0_ee78_075f_a6fe ∷
    bits 0x3fcf_01ba_eadd_b001 ∷ bits 0x3fd7_a463_005e_918c ∷ bits 0x3fcf_01ba_eadd_b001 ∷ bits 0x3fb0_ee78_075f_a6fe ∷
    bits 0x3f7b_86ba_d4e7_1d11 ∷ bits 0x3f29_a5a9_1520_0b1d ∷ bits 0x3eab_409d_a81c_1142 ∷ []

-- a row of eleven places, with +0.0 past its end
unfoldable pub padded : List Float → List Float
padded xs = xs ++ replicate (11 - length xs) zero_f

-- the rule of an order: as many nodes and weights as the order says
unfoldable pub rule_of : Order → Rule
rule_of o = record { size = size_of o; nodes = padded (nodes_of o); weights = padded (weights_of o) }
