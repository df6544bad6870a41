-- The published tables of ln (ARM's optimized routines, `log_data.c` with N = 128, the tables for machines without fma), row by row: for each i
-- below 128 the doubles 1/c, ln c, and c in two parts, for a c near the centre of the i-th part of the range of z. Assumes nothing.
use Rattle.std.specs.Prelude.{List, [], ◌∷◌, ℕ, ◌+◌, ◌*◌, Float}
use Rattle.base.specs.Number.{bits}
use Rattle.base.specs.Sum.{◌!◌}
use Rattle.tabulated.specs.declared.logtable.LogRow.{LogRow}

-- invc, logc, chi, clo of each row
unfoldable pub log_table : List Float
log_table =
    bits 0x3ff7_34f0_c3e0_de9f ∷ bits 0xbfd7_cc7f_79e6_9000 ∷ bits 0x3fe6_1000_014f_b66b ∷ bits 0x3c7e_026c_9142_5b3c ∷
    bits 0x3ff7_1378_6a2c_e91f ∷ bits 0xbfd7_6fee_c20d_0000 ∷ bits 0x3fe6_3000_034d_b495 ∷ bits 0x3c8d_bfea_4800_5d41 ∷
    bits 0x3ff6_f260_08fa_b5a0 ∷ bits 0xbfd7_13e3_1351_e000 ∷ bits 0x3fe6_5000_0d94_d478 ∷ bits 0x3c8e_7fa7_86d6_a5b7 ∷
    bits 0x3ff6_d1a6_1f13_8c7d ∷ bits 0xbfd6_b85b_3828_7800 ∷ bits 0x3fe6_7000_074e_6fad ∷ bits 0x3c61_fcea_6b54_254c ∷
    bits 0x3ff6_b149_0bc5_b4d1 ∷ bits 0xbfd6_5d55_9080_7800 ∷ bits 0x3fe6_8fff_fedf_0fae ∷ bits 0xbc7c_7e27_4c59_0efd ∷
    bits 0x3ff6_9147_332f_0cba ∷ bits 0xbfd6_02d0_7618_0000 ∷ bits 0x3fe6_b000_0763_c5bc ∷ bits 0xbc8a_c168_48dc_da01 ∷
    bits 0x3ff6_719f_1822_4223 ∷ bits 0xbfd5_a8ca_8690_9000 ∷ bits 0x3fe6_d000_1e5c_c1f6 ∷ bits 0x3c83_3f1c_9d49_9311 ∷
    bits 0x3ff6_524f_99a5_1ed9 ∷ bits 0xbfd5_4f43_5603_5000 ∷ bits 0x3fe6_efff_eb05_f63e ∷ bits 0xbc7e_8004_1ae2_2d53 ∷
    bits 0x3ff6_3356_aa8f_24c4 ∷ bits 0xbfd4_f637_c36b_4000 ∷ bits 0x3fe7_1000_0e86_9780 ∷ bits 0x3c7b_ff66_7109_7952 ∷
    bits 0x3ff6_14b3_6b9d_dc14 ∷ bits 0xbfd4_9da7_fda8_5000 ∷ bits 0x3fe7_2fff_fc67_e912 ∷ bits 0x3c8c_00e2_26bd_8724 ∷
    bits 0x3ff5_f664_52c6_5c4c ∷ bits 0xbfd4_4592_3989_a800 ∷ bits 0x3fe7_4fff_df81_116a ∷ bits 0xbc6e_0291_6ef1_01d2 ∷
    bits 0x3ff5_d867_b591_2c4f ∷ bits 0xbfd3_edf4_39b0_b800 ∷ bits 0x3fe7_7000_0f67_9c90 ∷ bits 0xbc67_fc71_cd54_9c74 ∷
    bits 0x3ff5_babc_cb5b_90de ∷ bits 0xbfd3_96ce_448f_7000 ∷ bits 0x3fe7_8fff_fa7e_c835 ∷ bits 0x3c81_bec1_9ef5_0483 ∷
    bits 0x3ff5_9d61_f2d9_1a78 ∷ bits 0xbfd3_401e_17bd_a000 ∷ bits 0x3fe7_afff_fe20_c2e6 ∷ bits 0xbc70_7e17_29cc_6465 ∷
    bits 0x3ff5_8056_1246_5687 ∷ bits 0xbfd2_e9e2_ef46_8000 ∷ bits 0x3fe7_cfff_ed3f_c900 ∷ bits 0xbc80_8072_087b_8b1c ∷
    bits 0x3ff5_6397_cee7_6bd3 ∷ bits 0xbfd2_941b_3830_e000 ∷ bits 0x3fe7_efff_e926_1a76 ∷ bits 0x3c8d_c028_6d9d_f9ae ∷
    bits 0x3ff5_4725_e2a7_7f93 ∷ bits 0xbfd2_3ec5_8cda_8800 ∷ bits 0x3fe8_1000_049c_a3e8 ∷ bits 0x3c89_7fd2_51e5_4c33 ∷
    bits 0x3ff5_2aff_4206_4583 ∷ bits 0xbfd1_e9e1_2927_9000 ∷ bits 0x3fe8_3000_1793_2c8f ∷ bits 0xbc8a_fee9_b630_f381 ∷
    bits 0x3ff5_0f22_dbb2_bddf ∷ bits 0xbfd1_956d_2b48_f800 ∷ bits 0x3fe8_5000_0633_739c ∷ bits 0x3c89_bfbf_6b65_35bc ∷
    bits 0x3ff4_f38f_4734_ded7 ∷ bits 0xbfd1_4167_9ab9_f800 ∷ bits 0x3fe8_7000_2042_89c6 ∷ bits 0xbc8b_bf65_f311_7b75 ∷
    bits 0x3ff4_d843_cfde_2840 ∷ bits 0xbfd0_edd0_94ef_9800 ∷ bits 0x3fe8_8fff_ebf5_7904 ∷ bits 0xbc89_006e_a23d_cb57 ∷
    bits 0x3ff4_bd3e_c078_a3c8 ∷ bits 0xbfd0_9aa5_18db_1000 ∷ bits 0x3fe8_b000_22bc_04df ∷ bits 0xbc7d_00df_38e0_4b0a ∷
    bits 0x3ff4_a27f_c3e0_258a ∷ bits 0xbfd0_47e6_5263_b800 ∷ bits 0x3fe8_cfff_e50c_1b8a ∷ bits 0xbc88_0071_46ff_9f05 ∷
    bits 0x3ff4_8805_24d4_8434 ∷ bits 0xbfcf_eb22_4586_f000 ∷ bits 0x3fe8_efff_fc91_8e43 ∷ bits 0x3c83_817b_d07a_7038 ∷
    bits 0x3ff4_6dce_1b19_2d0b ∷ bits 0xbfcf_474a_7517_b000 ∷ bits 0x3fe9_1000_1efa_5fc7 ∷ bits 0x3c89_3e91_76df_b403 ∷
    bits 0x3ff4_53d9_d339_1854 ∷ bits 0xbfce_a444_3d10_3000 ∷ bits 0x3fe9_3000_1346_7bb9 ∷ bits 0x3c7f_804e_4b98_0276 ∷
    bits 0x3ff4_3a27_44b4_845a ∷ bits 0xbfce_020d_44e9_b000 ∷ bits 0x3fe9_4fff_e6ee_076f ∷ bits 0xbc8f_7ef0_d9ff_622e ∷
    bits 0x3ff4_20b5_4115_f8fb ∷ bits 0xbfcd_60a2_2977_f000 ∷ bits 0x3fe9_6fff_de3c_12d1 ∷ bits 0xbc70_82aa_9626_38ba ∷
    bits 0x3ff4_0782_da3e_f4b1 ∷ bits 0xbfcc_c001_0495_9000 ∷ bits 0x3fe9_8fff_f445_8a0d ∷ bits 0xbc87_801b_9164_a8ef ∷
    bits 0x3ff3_ee8f_5d57_fe8f ∷ bits 0xbfcc_2029_5689_1000 ∷ bits 0x3fe9_afff_dd98_2e3e ∷ bits 0xbc87_40e0_8a5a_9337 ∷
    bits 0x3ff3_d5d9_a00b_4ce9 ∷ bits 0xbfcb_8117_8d81_1000 ∷ bits 0x3fe9_cfff_ed49_fb66 ∷ bits 0x3c3f_ce08_c19b_e000 ∷
    bits 0x3ff3_bd60_c010_c12b ∷ bits 0xbfca_e2c9_ccd3_d000 ∷ bits 0x3fe9_f000_20f1_9c51 ∷ bits 0xbc8a_3faa_2788_5b0a ∷
    bits 0x3ff3_a524_2b75_dab8 ∷ bits 0xbfca_4540_2e12_9000 ∷ bits 0x3fea_1000_1145_b006 ∷ bits 0x3c74_ff48_9958_da56 ∷
    bits 0x3ff3_8d22_cd9f_d002 ∷ bits 0xbfc9_a877_681d_f000 ∷ bits 0x3fea_3000_07bb_f6fa ∷ bits 0x3c8c_beab_8a2b_6d18 ∷
    bits 0x3ff3_755b_c584_7a1c ∷ bits 0xbfc9_0c6d_6948_3000 ∷ bits 0x3fea_5000_1097_1d79 ∷ bits 0x3c88_feca_dd78_7930 ∷
    bits 0x3ff3_5dce_49ad_36e2 ∷ bits 0xbfc8_7120_a645_c000 ∷ bits 0x3fea_7000_1df5_2e48 ∷ bits 0xbc8f_4176_3dd8_abdb ∷
    bits 0x3ff3_4679_984d_d440 ∷ bits 0xbfc7_d68f_b414_3000 ∷ bits 0x3fea_9000_1c59_3352 ∷ bits 0xbc8e_bf02_84c2_7612 ∷
    bits 0x3ff3_2f5c_ceff_cb24 ∷ bits 0xbfc7_3cb8_3c62_7000 ∷ bits 0x3fea_b000_2a4f_3e4b ∷ bits 0xbc69_fd04_3cff_3f5f ∷
    bits 0x3ff3_1877_75a1_0d49 ∷ bits 0xbfc6_a39a_9b37_6000 ∷ bits 0x3fea_cfff_d7ae_1ed1 ∷ bits 0xbc82_3ee7_1290_70b4 ∷
    bits 0x3ff3_01c8_373e_3990 ∷ bits 0xbfc6_0b31_54b7_a000 ∷ bits 0x3fea_efff_ee51_0478 ∷ bits 0x3c6a_063e_e00e_dea3 ∷
    bits 0x3ff2_eb4e_bb95_f841 ∷ bits 0xbfc5_737d_7624_3000 ∷ bits 0x3feb_0fff_db65_0d5b ∷ bits 0x3c5a_06c8_381f_0ab9 ∷
    bits 0x3ff2_d50a_0219_a9d1 ∷ bits 0xbfc4_dc7b_8fc2_3000 ∷ bits 0x3feb_2fff_feaa_ca57 ∷ bits 0xbc79_011e_7423_3c1d ∷
    bits 0x3ff2_bef9_a8b7_fd2a ∷ bits 0xbfc4_462c_51d2_0000 ∷ bits 0x3feb_4fff_d995_badc ∷ bits 0xbc79_ff10_6886_2a9f ∷
    bits 0x3ff2_a91c_7a0c_1bab ∷ bits 0xbfc3_b08a_bc83_0000 ∷ bits 0x3feb_7000_249e_659c ∷ bits 0x3c8a_ff45_d086_4f3e ∷
    bits 0x3ff2_9372_6014_b530 ∷ bits 0xbfc3_1b99_6b49_0000 ∷ bits 0x3feb_8fff_f987_1640 ∷ bits 0x3c7c_fe77_96c2_c3f9 ∷
    bits 0x3ff2_7dfa_5757_a1f5 ∷ bits 0xbfc2_8754_90a4_4000 ∷ bits 0x3feb_afff_d204_cb4f ∷ bits 0xbc63_ff27_eef2_2bc4 ∷
    bits 0x3ff2_68b3_9b1d_3bbf ∷ bits 0xbfc1_f3b9_f879_a000 ∷ bits 0x3feb_cfff_d241_5c45 ∷ bits 0xbc6c_ffb7_ee3b_ea21 ∷
    bits 0x3ff2_539d_838f_f5bd ∷ bits 0xbfc1_60c8_252c_a000 ∷ bits 0x3feb_efff_f863_09df ∷ bits 0xbc81_4103_972e_0b5c ∷
    bits 0x3ff2_3eb7_aac9_083b ∷ bits 0xbfc0_ce7f_57f7_2000 ∷ bits 0x3fec_0fff_e1b5_7653 ∷ bits 0x3c8b_c164_94b7_6a19 ∷
    bits 0x3ff2_2a01_2ba9_40b6 ∷ bits 0xbfc0_3cdc_49fe_a000 ∷ bits 0x3fec_2fff_f1fa_57e3 ∷ bits 0xbc64_feef_8d30_c6ed ∷
    bits 0x3ff2_1579_96cc_4132 ∷ bits 0xbfbf_57bd_bc4b_8000 ∷ bits 0x3fec_4fff_dcbf_e424 ∷ bits 0xbc84_3f68_bcec_4775 ∷
    bits 0x3ff2_0120_1dd2_fc9b ∷ bits 0xbfbe_3708_9640_4000 ∷ bits 0x3fec_6fff_ed54_b9f7 ∷ bits 0x3c84_7ea3_f053_e0ec ∷
    bits 0x3ff1_ecf4_494d_480b ∷ bits 0xbfbd_1798_3ef9_4000 ∷ bits 0x3fec_8fff_eb99_8fd5 ∷ bits 0x3c73_8306_8df9_92f1 ∷
    bits 0x3ff1_d8f5_528f_6569 ∷ bits 0xbfbb_f967_4ed8_a000 ∷ bits 0x3fec_b000_2125_219a ∷ bits 0xbc68_fd8e_6418_0e04 ∷
    bits 0x3ff1_c523_1157_7e7c ∷ bits 0xbfba_dc79_202f_6000 ∷ bits 0x3fec_cfff_dd94_469c ∷ bits 0x3c8e_7ebe_1cc7_ea72 ∷
    bits 0x3ff1_b17c_74cb_26e9 ∷ bits 0xbfb9_c0c3_e728_8000 ∷ bits 0x3fec_efff_eafd_c476 ∷ bits 0x3c8e_be39_ad9f_88fe ∷
    bits 0x3ff1_9e01_0c2c_1ab6 ∷ bits 0xbfb8_a646_b372_c000 ∷ bits 0x3fed_1000_169a_f82b ∷ bits 0x3c75_7d91_a8b9_5a71 ∷
    bits 0x3ff1_8ab0_7bb6_70bd ∷ bits 0xbfb7_8d01_b3ac_0000 ∷ bits 0x3fed_3000_0d0f_f71d ∷ bits 0x3c89_c190_6970_c7da ∷
    bits 0x3ff1_778a_25ef_bcb6 ∷ bits 0xbfb6_74f1_4538_0000 ∷ bits 0x3fed_4fff_ea79_0fc4 ∷ bits 0xbc58_0e37_c558_fe0c ∷
    bits 0x3ff1_648d_354c_31da ∷ bits 0xbfb5_5e0e_6d87_8000 ∷ bits 0x3fed_7000_2edc_87e5 ∷ bits 0xbc7f_80d6_4dc1_0f44 ∷
    bits 0x3ff1_51b9_9027_5fdd ∷ bits 0xbfb4_485c_dea1_e000 ∷ bits 0x3fed_9000_21dc_82aa ∷ bits 0xbc74_7c8f_94fd_5c5c ∷
    bits 0x3ff1_3f0e_a432_d24c ∷ bits 0xbfb3_33d9_4d6a_a000 ∷ bits 0x3fed_afff_d86b_0283 ∷ bits 0x3c8c_7f1d_c521_617e ∷
    bits 0x3ff1_2c8b_7210_f9da ∷ bits 0xbfb2_2079_f8c5_6000 ∷ bits 0x3fed_d000_296c_4739 ∷ bits 0x3c88_019e_b2ff_b153 ∷
    bits 0x3ff1_1a30_28ec_b531 ∷ bits 0xbfb1_0e46_9862_2000 ∷ bits 0x3fed_efff_e544_90f5 ∷ bits 0x3c6e_00d2_c652_cc89 ∷
    bits 0x3ff1_07fb_da84_34af ∷ bits 0xbfaf_fa6c_6ad2_0000 ∷ bits 0x3fee_0fff_cdab_f694 ∷ bits 0xbc7f_8340_202d_69d2 ∷
    bits 0x3ff0_f5ee_0f4e_6bb3 ∷ bits 0xbfad_da8d_4a77_4000 ∷ bits 0x3fee_2fff_db52_c8dd ∷ bits 0x3c7b_00c1_ca1b_0864 ∷
    bits 0x3ff0_e406_5d2a_9fce ∷ bits 0xbfab_bcec_e485_0000 ∷ bits 0x3fee_4fff_f242_16ef ∷ bits 0x3c72_ffa8_b094_ab51 ∷
    bits 0x3ff0_d244_632c_a521 ∷ bits 0xbfa9_a189_4012_c000 ∷ bits 0x3fee_6fff_e88a_5e11 ∷ bits 0xbc57_f673_b1ef_be59 ∷
    bits 0x3ff0_c0a7_7ce2_981a ∷ bits 0xbfa7_8858_3302_c000 ∷ bits 0x3fee_9000_119e_ff0d ∷ bits 0xbc84_808d_5e0b_c801 ∷
    bits 0x3ff0_af2f_83c6_36d1 ∷ bits 0xbfa5_715e_67d6_8000 ∷ bits 0x3fee_afff_dfa5_1744 ∷ bits 0x3c78_0006_d543_20b5 ∷
    bits 0x3ff0_9ddb_98a0_1339 ∷ bits 0xbfa3_5c8a_4965_8000 ∷ bits 0x3fee_d000_1a12_7fa1 ∷ bits 0xbc50_02f8_6056_5c92 ∷
    bits 0x3ff0_8cab_af52_e7df ∷ bits 0xbfa1_49e3_6415_4000 ∷ bits 0x3fee_f000_07ba_bcc4 ∷ bits 0xbc85_4044_5d35_e611 ∷
    bits 0x3ff0_7b9f_2f4e_28fb ∷ bits 0xbf9e_72c0_82eb_8000 ∷ bits 0x3fef_0fff_f57a_8d02 ∷ bits 0xbc4f_fb31_39ef_9105 ∷
    bits 0x3ff0_6ab5_8c35_8f19 ∷ bits 0xbf9a_55f1_5252_8000 ∷ bits 0x3fef_3000_1ee5_8ac7 ∷ bits 0x3c8a_81ac_f273_1155 ∷
    bits 0x3ff0_59ee_a5ec_f92c ∷ bits 0xbf96_3d62_cf81_8000 ∷ bits 0x3fef_4fff_f582_3494 ∷ bits 0x3c8a_3f41_d4d7_c743 ∷
    bits 0x3ff0_4949_cdd1_2c90 ∷ bits 0xbf92_28fb_8caa_0000 ∷ bits 0x3fef_6fff_fca9_4c6b ∷ bits 0xbc62_02f4_1c98_7875 ∷
    bits 0x3ff0_38c6_c6f0_ada9 ∷ bits 0xbf8c_317b_20f9_0000 ∷ bits 0x3fef_8fff_e1f9_c441 ∷ bits 0x3c77_7dd1_f477_e74b ∷
    bits 0x3ff0_2865_1379_32a9 ∷ bits 0xbf84_1935_5daa_0000 ∷ bits 0x3fef_afff_d2e0_e37e ∷ bits 0xbc6f_0119_9a7c_a331 ∷
    bits 0x3ff0_1824_27ea_7348 ∷ bits 0xbf78_1203_c2ec_0000 ∷ bits 0x3fef_d000_1c77_e49e ∷ bits 0x3c71_81ee_4bce_acb1 ∷
    bits 0x3ff0_0804_0614_b195 ∷ bits 0xbf60_0409_7924_0000 ∷ bits 0x3fef_efff_f7e0_c331 ∷ bits 0xbc6e_0537_0170_875a ∷
    bits 0x3fef_e01f_f726_fa1a ∷ bits 0x3f6f_eff3_8490_0000 ∷ bits 0x3ff0_0fff_f465_606e ∷ bits 0xbc8a_7ead_491c_0ada ∷
    bits 0x3fef_a11c_c261_ea74 ∷ bits 0x3f87_dc41_353d_0000 ∷ bits 0x3ff0_2fff_f386_7a58 ∷ bits 0xbc97_7f69_c3fc_b2e0 ∷
    bits 0x3fef_6310_b081_992e ∷ bits 0x3f93_cea3_c4c2_8000 ∷ bits 0x3ff0_4fff_fdfc_0d17 ∷ bits 0x3c97_bffe_34cb_945b ∷
    bits 0x3fef_25f6_3cee_adcd ∷ bits 0x3f9b_9fc1_1489_0000 ∷ bits 0x3ff0_7000_03cd_4d82 ∷ bits 0x3c82_0083_c0e4_56cb ∷
    bits 0x3fee_e9c8_0391_13e7 ∷ bits 0x3fa1_b0d8_ce11_0000 ∷ bits 0x3ff0_8fff_f9f2_cbe8 ∷ bits 0xbc6d_ffdf_be37_751a ∷
    bits 0x3fee_ae80_78cb_b1ab ∷ bits 0x3fa5_8a5b_d001_c000 ∷ bits 0x3ff0_b000_010c_da65 ∷ bits 0xbc91_3f7f_aee6_26eb ∷
    bits 0x3fee_741a_a29d_0c9b ∷ bits 0x3fa9_5c83_40d8_8000 ∷ bits 0x3ff0_d000_01a4_d338 ∷ bits 0x3c80_7dfa_7948_9ff7 ∷
    bits 0x3fee_3a91_830a_99b5 ∷ bits 0x3fad_276a_ef57_8000 ∷ bits 0x3ff0_efff_fada_fdfd ∷ bits 0xbc77_0405_70d6_6bc0 ∷
    bits 0x3fee_01e0_0960_9a56 ∷ bits 0x3fb0_7598_e598_c000 ∷ bits 0x3ff1_1000_0bba_fd96 ∷ bits 0x3c8e_80d4_846d_0b62 ∷
    bits 0x3fed_ca01_e577_bb98 ∷ bits 0x3fb2_53f5_e30d_2000 ∷ bits 0x3ff1_2fff_fae5_f45d ∷ bits 0x3c9d_bffa_64fd_36ef ∷
    bits 0x3fed_92f2_0b7c_9103 ∷ bits 0x3fb4_2edd_8b38_0000 ∷ bits 0x3ff1_5000_0dd5_9ad9 ∷ bits 0x3c9a_0077_7012_50ae ∷
    bits 0x3fed_5cac_66fb_5cce ∷ bits 0x3fb6_0659_8757_c000 ∷ bits 0x3ff1_7000_0f21_559a ∷ bits 0x3c8d_fdf9_e2e3_deee ∷
    bits 0x3fed_272c_aa5e_de9d ∷ bits 0x3fb7_da76_356a_0000 ∷ bits 0x3ff1_8fff_fc27_5426 ∷ bits 0x3c91_0030_dc3b_7273 ∷
    bits 0x3fec_f26e_3e6b_2ccd ∷ bits 0x3fb9_ab43_4e1c_6000 ∷ bits 0x3ff1_b000_123d_3c59 ∷ bits 0x3c99_7f79_8003_0188 ∷
    bits 0x3fec_be6d_a2a7_7902 ∷ bits 0x3fbb_78c7_bb0d_6000 ∷ bits 0x3ff1_cfff_f829_9eb7 ∷ bits 0xbc65_f932_ab9f_8c67 ∷
    bits 0x3fec_8b26_6d37_086d ∷ bits 0x3fbd_4313_32e7_2000 ∷ bits 0x3ff1_efff_f48a_d400 ∷ bits 0x3c93_7fbf_9da7_5beb ∷
    bits 0x3fec_5894_bd5d_5804 ∷ bits 0x3fbf_0a31_71de_6000 ∷ bits 0x3ff2_1000_0c8b_86a4 ∷ bits 0x3c9f_806b_91fd_5b22 ∷
    bits 0x3fec_26b5_33bb_9f8c ∷ bits 0x3fc0_6715_2b91_4000 ∷ bits 0x3ff2_3000_0385_4303 ∷ bits 0x3c93_ffc2_eb9f_bf33 ∷
    bits 0x3feb_f583_eeec_e73f ∷ bits 0x3fc1_4785_8292_b000 ∷ bits 0x3ff2_4fff_ffbc_f684 ∷ bits 0x3c76_01e7_7e2e_2e72 ∷
    bits 0x3feb_c4fd_75db_96c1 ∷ bits 0x3fc2_266e_cdca_3000 ∷ bits 0x3ff2_6fff_f529_21d9 ∷ bits 0x3c7f_fcbb_767f_0c61 ∷
    bits 0x3feb_951e_0c86_4a28 ∷ bits 0x3fc3_03d7_a6c5_5000 ∷ bits 0x3ff2_9000_1493_3a3c ∷ bits 0xbc72_02ca_3c02_412b ∷
    bits 0x3feb_65e2_c5ef_3e2c ∷ bits 0x3fc3_dfc3_3c33_1000 ∷ bits 0x3ff2_b000_1455_6313 ∷ bits 0xbc92_8082_33f2_1f02 ∷
    bits 0x3feb_3748_67c9_888b ∷ bits 0x3fc4_ba36_6b7a_8000 ∷ bits 0x3ff2_cfff_ebfe_523b ∷ bits 0xbc88_ff7e_384f_dcf2 ∷
    bits 0x3feb_094b_211d_304a ∷ bits 0x3fc5_9339_28d1_f000 ∷ bits 0x3ff2_f000_0bb8_ad96 ∷ bits 0xbc85_ff51_5030_41c5 ∷
    bits 0x3fea_dbe8_85f2_ef7e ∷ bits 0x3fc6_6acd_2418_f000 ∷ bits 0x3ff3_0fff_fb7a_e2af ∷ bits 0xbc81_0071_885e_289d ∷
    bits 0x3fea_af1d_3160_3da2 ∷ bits 0x3fc7_40f8_ec66_9000 ∷ bits 0x3ff3_2fff_feac_5f7f ∷ bits 0xbc91_ff5d_3fb7_b715 ∷
    bits 0x3fea_82e6_3fd3_58a7 ∷ bits 0x3fc8_15c0_f51a_f000 ∷ bits 0x3ff3_5000_0ca6_6756 ∷ bits 0x3c95_7f82_228b_82bd ∷
    bits 0x3fea_5740_ef09_738b ∷ bits 0x3fc8_e929_54f6_8000 ∷ bits 0x3ff3_7000_11fb_f721 ∷ bits 0x3c80_00ba_c40d_d5cc ∷
    bits 0x3fea_2c2a_90ab_4b27 ∷ bits 0x3fc9_bb36_02f8_4000 ∷ bits 0x3ff3_8fff_f959_2fb9 ∷ bits 0xbc94_3f9d_2db2_a751 ∷
    bits 0x3fea_01a0_1393_f2d1 ∷ bits 0x3fca_8bed_1c2c_0000 ∷ bits 0x3ff3_b000_04dd_d242 ∷ bits 0x3c85_7f6b_7076_38e1 ∷
    bits 0x3fe9_d79f_24db_3c1b ∷ bits 0x3fcb_5b51_5c01_d000 ∷ bits 0x3ff3_cfff_f5b2_c957 ∷ bits 0x3c7a_023a_10bf_1231 ∷
    bits 0x3fe9_ae25_05c7_b190 ∷ bits 0x3fcc_2967_ccbc_c000 ∷ bits 0x3ff3_efff_eab0_b418 ∷ bits 0x3c98_7f6d_66b1_52b0 ∷
    bits 0x3fe9_852e_f297_ce2f ∷ bits 0x3fcc_f635_d548_6000 ∷ bits 0x3ff4_1000_1532_aff4 ∷ bits 0x3c67_f837_5f19_8524 ∷
    bits 0x3fe9_5cba_eea4_4b75 ∷ bits 0x3fcd_c1bd_3446_c000 ∷ bits 0x3ff4_3000_1747_8b29 ∷ bits 0x3c83_01e6_72dc_5143 ∷
    bits 0x3fe9_34c6_9de7_4838 ∷ bits 0x3fce_8c01_b8cf_e000 ∷ bits 0x3ff4_4fff_e795_b463 ∷ bits 0x3c89_ff69_b8b2_895a ∷
    bits 0x3fe9_0d4f_2f67_52e6 ∷ bits 0x3fcf_5509_c017_9000 ∷ bits 0x3ff4_6fff_e804_75e0 ∷ bits 0xbc95_c0b1_9bc2_f254 ∷
    bits 0x3fe8_e652_8eff_d79d ∷ bits 0x3fd0_0e6c_121f_b800 ∷ bits 0x3ff4_8fff_ef6f_c1e7 ∷ bits 0x3c9b_4009_f23a_2a72 ∷
    bits 0x3fe8_bfce_9fcc_007c ∷ bits 0x3fd0_71b8_0e93_d000 ∷ bits 0x3ff4_afff_e5be_a704 ∷ bits 0xbc94_ffb7_bf0d_7d45 ∷
    bits 0x3fe8_99c0_dabe_c30e ∷ bits 0x3fd0_d46b_9e86_7000 ∷ bits 0x3ff4_d000_1710_27de ∷ bits 0xbc99_c064_71dc_6a3d ∷
    bits 0x3fe8_7427_aa23_17fb ∷ bits 0x3fd1_3687_334b_d000 ∷ bits 0x3ff4_f000_0ff0_3ee2 ∷ bits 0x3c97_7f89_0b85_531c ∷
    bits 0x3fe8_4f00_acb3_9a08 ∷ bits 0x3fd1_980d_6723_4800 ∷ bits 0x3ff5_1000_12dc_4bd1 ∷ bits 0x3c60_0465_7166_a436 ∷
    bits 0x3fe8_2a49_e865_3e55 ∷ bits 0x3fd1_f8ff_e0cc_8000 ∷ bits 0x3ff5_3000_1605_277a ∷ bits 0xbc96_bfce_ce23_3209 ∷
    bits 0x3fe8_0601_95f4_0260 ∷ bits 0x3fd2_595f_d763_6800 ∷ bits 0x3ff5_4fff_ecdb_704c ∷ bits 0xbc89_0272_0505_a1d7 ∷
    bits 0x3fe7_e225_63e0_a329 ∷ bits 0x3fd2_b930_0914_a800 ∷ bits 0x3ff5_6fff_ef5f_54a9 ∷ bits 0x3c9b_bfe6_0ec9_6412 ∷
    bits 0x3fe7_beb3_77dc_b5ad ∷ bits 0x3fd3_1872_1043_6000 ∷ bits 0x3ff5_9000_17e6_1012 ∷ bits 0x3c88_7ec5_81af_ef90 ∷
    bits 0x3fe7_9baa_6797_25c2 ∷ bits 0x3fd3_7726_6dec_1800 ∷ bits 0x3ff5_b000_03c9_3e92 ∷ bits 0xbc9f_4108_0abf_0cc0 ∷
    bits 0x3fe7_7907_f217_0657 ∷ bits 0x3fd3_d54f_fbaf_3000 ∷ bits 0x3ff5_d000_1d49_19bc ∷ bits 0xbc98_812a_fb25_4729 ∷
    bits 0x3fe7_56ca_dbd6_130c ∷ bits 0x3fd4_32ee_e32f_e000 ∷ bits 0x3ff5_efff_e7b8_7a89 ∷ bits 0xbc94_7eb7_80ed_6904 ∷
    []

-- row i: 1/c, ln c, and c in two parts
unfoldable pub log_row : ℕ → LogRow
log_row i = record { inverse = log_table ! (4 * i); log = log_table ! (4 * i + 1); centre = log_table ! (4 * i + 2); rest = log_table ! (4 * i + 3) }
