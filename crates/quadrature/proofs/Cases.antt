-- Eleven of the cases that document 01 marks to be proved: the order choice at wish 11, 1 and 2. Assumes nothing.
use Rattle.std.specs.Prelude.{Ok, Err}
use mathlib.Core.Path.{◌≡◌, refl}
use Rattle.quadrature.specs.declared.orders.Order.TheVariants.{Three, Five, Seven, Nine, Eleven}
use Rattle.quadrature.specs.declared.orders.Decline.TheVariants.{Wish, Effects, Cap}
use Rattle.quadrature.specs.Orders.{size_of, first_order, wished, within_cap, down_from, first_within, capped_from, product_capped, product_order, joint_capped, joint_order}

-- joint, wish 11
pub joint_3 : joint_order 11 3 ≡ Ok Eleven
unfolding joint_order joint_capped wished first_order capped_from first_within down_from within_cap size_of
joint_3 = refl

pub joint_4 : joint_order 11 4 ≡ Ok Nine
unfolding joint_order joint_capped wished first_order capped_from first_within down_from within_cap size_of
joint_4 = refl

pub joint_5 : joint_order 11 5 ≡ Ok Five
unfolding joint_order joint_capped wished first_order capped_from first_within down_from within_cap size_of
joint_5 = refl

pub joint_8 : joint_order 11 8 ≡ Ok Three
unfolding joint_order joint_capped wished first_order capped_from first_within down_from within_cap size_of
joint_8 = refl

pub joint_9 : joint_order 11 9 ≡ Err Effects
unfolding joint_order joint_capped wished first_order
joint_9 = refl

-- product, wish 11
pub product_2 : product_order 11 2 ≡ Ok Eleven
unfolding product_order product_capped wished first_order capped_from first_within down_from within_cap size_of
product_2 = refl

pub product_3 : product_order 11 3 ≡ Ok Seven
unfolding product_order product_capped wished first_order capped_from first_within down_from within_cap size_of
product_3 = refl

pub product_5 : product_order 11 5 ≡ Ok Three
unfolding product_order product_capped wished first_order capped_from first_within down_from within_cap size_of
product_5 = refl

pub product_6 : product_order 11 6 ≡ Err Cap
unfolding product_order product_capped wished first_order capped_from first_within down_from within_cap size_of
product_6 = refl

-- wish 1 and 2
pub wish_1 : wished 1 ≡ Err Wish
unfolding wished
wish_1 = refl

pub wish_2 : wished 2 ≡ Ok Three
unfolding wished first_order
wish_2 = refl
