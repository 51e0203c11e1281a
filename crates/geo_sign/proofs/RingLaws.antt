-- The laws of sums and products of whole numbers that the library leaves out.
use Rattle.std.proofs.Common.{◌≡◌, sym, ap, ◌∙◌, ℤ, pos, negsuc, ◌+ℤ◌, ◌-ℤ◌, ◌*ℤ◌, neg_ℤ, arith}
use Rattle.std.proofs.lemmas.Int.{ints}
use lib.IntN.{ℤ_ind, zero-*ℤ, *ℤ_comm, suc_ℤ-*ℤ, pred_ℤ-*ℤ, +ℤ_one, -ℤ_one}

up_one : (a c : ℤ) → (a +ℤ pos 1) *ℤ c ≡ a *ℤ c +ℤ c
up_one a c = ap (λ x. x *ℤ c) (+ℤ_one a) ∙ suc_ℤ-*ℤ a c

down_one : (a c : ℤ) → (a +ℤ negsuc 0) *ℤ c ≡ a *ℤ c -ℤ c
down_one a c = ap (λ x. x *ℤ c) (-ℤ_one a) ∙ pred_ℤ-*ℤ a c

-- linear facts on four numbers
add_swap : (a b c : ℤ) → (a +ℤ b) +ℤ c ≡ (a +ℤ c) +ℤ b
add_swap a b c = omega (arith, ints)

sub_swap : (a b c : ℤ) → (a +ℤ b) -ℤ c ≡ (a -ℤ c) +ℤ b
sub_swap a b c = omega (arith, ints)

zero_start : (b c : ℤ) → (pos 0 +ℤ b) *ℤ c ≡ pos 0 *ℤ c +ℤ b *ℤ c
zero_start b c = grind (arith, ints, zero-*ℤ)

up_step : (x b c : ℤ) → (x +ℤ b) *ℤ c ≡ x *ℤ c +ℤ b *ℤ c → ((x +ℤ pos 1) +ℤ b) *ℤ c ≡ (x +ℤ pos 1) *ℤ c +ℤ b *ℤ c
up_step x b c ih = grind (arith, ints, add_swap, up_one)

down_step : (x b c : ℤ) → (x +ℤ b) *ℤ c ≡ x *ℤ c +ℤ b *ℤ c → ((x +ℤ negsuc 0) +ℤ b) *ℤ c ≡ (x +ℤ negsuc 0) *ℤ c +ℤ b *ℤ c
down_step x b c ih = grind (arith, ints, add_swap, down_one, sub_swap)

pub +ℤ-*ℤ : (a b c : ℤ) → (a +ℤ b) *ℤ c ≡ a *ℤ c +ℤ b *ℤ c
+ℤ-*ℤ a b c =
    ℤ_ind (λ x. (x +ℤ b) *ℤ c ≡ x *ℤ c +ℤ b *ℤ c) (zero_start b c) (λ n. up_step (pos n) b c)
    (λ n. down_step (neg_ℤ (pos n)) b c) a

pub *ℤ-+ℤ : (a b c : ℤ) → a *ℤ (b +ℤ c) ≡ a *ℤ b +ℤ a *ℤ c
*ℤ-+ℤ a b c = *ℤ_comm a (b +ℤ c) ∙ +ℤ-*ℤ b c a ∙ ap (λ y. y +ℤ c *ℤ a) (*ℤ_comm b a) ∙ ap (λ y. a *ℤ b +ℤ y) (*ℤ_comm c a)

up_mul : (x b c : ℤ) → (x *ℤ b) *ℤ c ≡ x *ℤ (b *ℤ c) → ((x +ℤ pos 1) *ℤ b) *ℤ c ≡ (x +ℤ pos 1) *ℤ (b *ℤ c)
up_mul x b c ih = ap (λ y. y *ℤ c) (up_one x b) ∙ +ℤ-*ℤ (x *ℤ b) b c ∙ ap (λ y. y +ℤ b *ℤ c) ih ∙ sym (up_one x (b *ℤ c))

pub neg-*ℤ : (a c : ℤ) → neg_ℤ a *ℤ c ≡ neg_ℤ (a *ℤ c)
neg-*ℤ a c = grind (arith, ints, +ℤ-*ℤ, zero-*ℤ)

pub *ℤ-neg : (a b : ℤ) → a *ℤ neg_ℤ b ≡ neg_ℤ (a *ℤ b)
*ℤ-neg a b = *ℤ_comm a (neg_ℤ b) ∙ neg-*ℤ b a ∙ ap neg_ℤ (*ℤ_comm b a)

pub -ℤ-*ℤ : (a b c : ℤ) → (a -ℤ b) *ℤ c ≡ a *ℤ c -ℤ b *ℤ c
-ℤ-*ℤ a b c = +ℤ-*ℤ a (neg_ℤ b) c ∙ ap (λ x. a *ℤ c +ℤ x) (neg-*ℤ b c)

down_mul : (x b c : ℤ) → (x *ℤ b) *ℤ c ≡ x *ℤ (b *ℤ c) → ((x +ℤ negsuc 0) *ℤ b) *ℤ c ≡ (x +ℤ negsuc 0) *ℤ (b *ℤ c)
down_mul x b c ih = ap (λ y. y *ℤ c) (down_one x b) ∙ -ℤ-*ℤ (x *ℤ b) b c ∙ ap (λ y. y -ℤ b *ℤ c) ih ∙ sym (down_one x (b *ℤ c))

pub *ℤ_assoc : (a b c : ℤ) → (a *ℤ b) *ℤ c ≡ a *ℤ (b *ℤ c)
*ℤ_assoc a b c =
    ℤ_ind (λ x. (x *ℤ b) *ℤ c ≡ x *ℤ (b *ℤ c))
    (ap (λ y. y *ℤ c) (zero-*ℤ b) ∙ zero-*ℤ c ∙ sym (zero-*ℤ (b *ℤ c)))
    (λ n. up_mul (pos n) b c) (λ n. down_mul (neg_ℤ (pos n)) b c) a

pub *ℤ_left : (a b c : ℤ) → a *ℤ (b *ℤ c) ≡ b *ℤ (a *ℤ c)
*ℤ_left a b c = sym (*ℤ_assoc a b c) ∙ ap (λ y. y *ℤ c) (*ℤ_comm a b) ∙ *ℤ_assoc b a c
