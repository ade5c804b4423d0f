-- The texts of lists, pushed one item after the other behind what is there.
use Rattle.std.specs.Prelude.{ℕ, List, [], ◌∷◌, ◌++◌, ◌==◌, ◌||◌, if◌then◌else◌, codes}
use Rattle.postquel_tokens.specs.Forms.{Sentence}
use Rattle.postquel.specs.Print.{sentence_text}

abbrev pub escaped_onto : List ℕ → List ℕ → List ℕ
escaped_onto out [] = out
escaped_onto out (b ∷ w) = escaped_onto (out ++ (if b == 34 || b == 92 then 92 ∷ b ∷ [] else b ∷ [])) w

abbrev pub joined_onto : {A : Type 0} → (A → List ℕ) → List ℕ → List ℕ → List A → List ℕ
joined_onto f between out [] = out
joined_onto f between out (x ∷ xs) = joined_onto f (codes ", ") ((out ++ between) ++ f x) xs

abbrev pub sentences_onto : List ℕ → List Sentence → List ℕ
sentences_onto out [] = out
sentences_onto out (s ∷ ss) = sentences_onto (out ++ sentence_text s) ss
