-- The nine identities, for any vectors: the four of reduction, T6 to T9 of the source paper, and 2.11 of its companion. Each by normal forms. Assumes nothing.
use Rattle.std.specs.Prelude.{◌≡◌, refl, [], ◌∷◌, ◌+ℤ◌, ◌-ℤ◌, ◌*ℤ◌}
use Rattle.algebra.proofs.Normaliser.{◌⊕◌, ◌⊖◌, ◌⊗◌, normalising}
use Rattle.specification.specs.Values.{Vec, ◌+v◌, ◌-v◌, ◌•◌, dot, wedge, triple}
use Rattle.theory.specs.Values.Expressions.{◌+e◌, ◌-e◌, ◌•e◌, dot_e, wedge_e, triple_e, A, B, C, D, G, H, letters, same_numbers, same_vectors}

-- ════ reduction

-- a∧(b∧c) = (a·c)b − (a·b)c
pub wedge-right : (a b c : Vec) → wedge a (wedge b c) ≡ dot a c • b -v dot a b • c
unfolding normalising
wedge-right a b c = same_vectors (wedge_e A (wedge_e B C)) (dot_e A C •e B -e dot_e A B •e C) (letters (a ∷ b ∷ c ∷ [])) (refl, refl, refl)

-- (a∧b)∧c = (a·c)b − (b·c)a
pub wedge-left : (a b c : Vec) → wedge (wedge a b) c ≡ dot a c • b -v dot b c • a
unfolding normalising
wedge-left a b c = same_vectors (wedge_e (wedge_e A B) C) (dot_e A C •e B -e dot_e B C •e A) (letters (a ∷ b ∷ c ∷ [])) (refl, refl, refl)

-- (a∧b)∧(c∧d) = (abd)c − (abc)d
pub wedge-wedge : (a b c d : Vec) → wedge (wedge a b) (wedge c d) ≡ triple a b d • c -v triple a b c • d
unfolding normalising
wedge-wedge a b c d =
    same_vectors (wedge_e (wedge_e A B) (wedge_e C D)) (triple_e A B D •e C -e triple_e A B C •e D) (letters (a ∷ b ∷ c ∷ d ∷ [])) (refl, refl, refl)

-- (a∧b)·(c∧d) = (a·c)(b·d) − (a·d)(b·c)
pub dot-wedge : (a b c d : Vec) → dot (wedge a b) (wedge c d) ≡ dot a c *ℤ dot b d -ℤ dot a d *ℤ dot b c
unfolding normalising
dot-wedge a b c d = same_numbers (dot_e (wedge_e A B) (wedge_e C D)) (dot_e A C ⊗ dot_e B D ⊖ dot_e A D ⊗ dot_e B C) (letters (a ∷ b ∷ c ∷ d ∷ [])) refl

-- ════ the rules

-- T6: (abc)d = (d·a)(b∧c) + (d·b)(c∧a) + (d·c)(a∧b)
pub T6 : (a b c d : Vec) → triple a b c • d ≡ dot d a • wedge b c +v dot d b • wedge c a +v dot d c • wedge a b
unfolding normalising
T6 a b c d =
    same_vectors (triple_e A B C •e D) (dot_e D A •e wedge_e B C +e dot_e D B •e wedge_e C A +e dot_e D C •e wedge_e A B)
    (letters (a ∷ b ∷ c ∷ d ∷ [])) (refl, refl, refl)

-- T7: (abc)d = (dbc)a + (adc)b + (abd)c
pub T7 : (a b c d : Vec) → triple a b c • d ≡ triple d b c • a +v triple a d c • b +v triple a b d • c
unfolding normalising
T7 a b c d =
    same_vectors (triple_e A B C •e D) (triple_e D B C •e A +e triple_e A D C •e B +e triple_e A B D •e C)
    (letters (a ∷ b ∷ c ∷ d ∷ [])) (refl, refl, refl)

-- T8: (d·h)(abc) = (d·a)(hbc) + (d·b)(ahc) + (d·c)(abh)
pub T8 : (a b c d h : Vec) → dot d h *ℤ triple a b c ≡ dot d a *ℤ triple h b c +ℤ dot d b *ℤ triple a h c +ℤ dot d c *ℤ triple a b h
unfolding normalising
T8 a b c d h =
    same_numbers (dot_e D G ⊗ triple_e A B C) (dot_e D A ⊗ triple_e G B C ⊕ dot_e D B ⊗ triple_e A G C ⊕ dot_e D C ⊗ triple_e A B G)
    (letters (a ∷ b ∷ c ∷ d ∷ h ∷ [])) refl

-- T9: (abc)(d∧h) = (dha)(b∧c) + (dhb)(c∧a) + (dhc)(a∧b)
pub T9 : (a b c d h : Vec) → triple a b c • wedge d h ≡ triple d h a • wedge b c +v triple d h b • wedge c a +v triple d h c • wedge a b
unfolding normalising
T9 a b c d h =
    same_vectors (triple_e A B C •e wedge_e D G) (triple_e D G A •e wedge_e B C +e triple_e D G B •e wedge_e C A +e triple_e D G C •e wedge_e A B)
    (letters (a ∷ b ∷ c ∷ d ∷ h ∷ [])) (refl, refl, refl)

-- 2.11: (abc)(dgh) = [(b∧c)·(d∧g)](a·h) + [(c∧a)·(d∧g)](b·h) + [(a∧b)·(d∧g)](c·h)
pub product_of_triples : (a b c d g h : Vec)
    → triple a b c *ℤ triple d g h
    ≡ dot (wedge b c) (wedge d g) *ℤ dot a h +ℤ dot (wedge c a) (wedge d g) *ℤ dot b h +ℤ dot (wedge a b) (wedge d g) *ℤ dot c h
unfolding normalising
product_of_triples a b c d g h =
    same_numbers (triple_e A B C ⊗ triple_e D G H)
    (dot_e (wedge_e B C) (wedge_e D G) ⊗ dot_e A H ⊕ dot_e (wedge_e C A) (wedge_e D G) ⊗ dot_e B H ⊕ dot_e (wedge_e A B) (wedge_e D G) ⊗ dot_e C H)
    (letters (a ∷ b ∷ c ∷ d ∷ g ∷ h ∷ [])) refl
