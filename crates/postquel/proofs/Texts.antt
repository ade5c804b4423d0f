-- The text of a list is that of its items one after the other.
use Rattle.std.proofs.Common.{◌≡◌, ◌≤◌, ℕ, length, Result, Ok, Err, OnOk, arith, ◌||◌, cond, eqb, List, [], ◌∷◌, ◌++◌, sym, ap, ◌∙◌, append_assoc}
use Rattle.std.specs.Prelude.{codes}
use Rattle.std.proofs.lemmas.List.{append-nil}
use Rattle.postquel_tokens.specs.declared.form.RangeForm.{RangeForm}
use Rattle.postquel_tokens.specs.declared.form.KeyForm.{KeyForm}
use Rattle.postquel_tokens.specs.declared.form.StepForm.{StepForm}
use Rattle.postquel_tokens.specs.Forms.{Sentence}
use Rattle.postquel.specs.Print.{escaped, quoted, further, joined, range_text, ranges_text, key_text, keys_text, step_text, machine_text, sentence_text, sentences_text}
use Rattle.postquel.specs.Onto.{escaped_onto, joined_onto, sentences_onto}

pub escaped_is : (out w : List ℕ) → escaped_onto out w ≡ out ++ escaped w
escaped_is out [] = sym (append-nil out)
escaped_is out (b ∷ w) =
    let one = cond (eqb b 34 || eqb b 92) (92 ∷ b ∷ []) (b ∷ []) in
    escaped_is (out ++ one) w ∙ append_assoc out one (escaped w)

further_is : {A : Type 0} (f : A → List ℕ) (out : List ℕ) (xs : List A) → joined_onto f (codes ", ") out xs ≡ out ++ further f xs
further_is f out [] = sym (append-nil out)
further_is f out (x ∷ xs) = further_is f ((out ++ codes ", ") ++ f x) xs ∙ append_assoc (out ++ codes ", ") (f x) (further f xs) ∙ append_assoc out (codes ", ") (f x ++ further f xs)

pub joined_is : {A : Type 0} (f : A → List ℕ) (out : List ℕ) (xs : List A) → joined_onto f [] out xs ≡ out ++ joined f xs
joined_is f out [] = sym (append-nil out)
joined_is f out (x ∷ xs) = ap (λ (v : List ℕ). joined_onto f (codes ", ") (v ++ f x) xs) (append-nil out) ∙ further_is f (out ++ f x) xs ∙ append_assoc out (f x) (further f xs)

pub sentences_are : (out : List ℕ) (ss : List Sentence) → sentences_onto out ss ≡ out ++ sentences_text ss
sentences_are out [] = sym (append-nil out)
sentences_are out (s ∷ ss) = sentences_are (out ++ sentence_text s) ss ∙ append_assoc out (sentence_text s) (sentences_text ss)

pub quoted_is : (out w a b c : List ℕ) → a ≡ out ++ 34 ∷ [] → b ≡ escaped_onto a w → c ≡ b ++ 34 ∷ [] → c ≡ out ++ quoted w
quoted_is out w a b c p q r =
    r ∙ ap (λ (v : List ℕ). v ++ 34 ∷ []) (q ∙ ap (λ (v : List ℕ). escaped_onto v w) p ∙ escaped_is (out ++ 34 ∷ []) w) ∙ append_assoc (out ++ 34 ∷ []) (escaped w) (34 ∷ []) ∙ append_assoc out (34 ∷ []) (escaped w ++ 34 ∷ [])

-- the items of a list behind other text, and between two texts
pub behind : {A : Type 0} (f : A → List ℕ) (xs : List A) (out front a b : List ℕ) → a ≡ out ++ front → b ≡ joined_onto f [] a xs → b ≡ out ++ (front ++ joined f xs)
behind f xs out front a b p q = q ∙ ap (λ (v : List ℕ). joined_onto f [] v xs) p ∙ joined_is f (out ++ front) xs ∙ append_assoc out front (joined f xs)

pub between : {A : Type 0} (f : A → List ℕ) (xs : List A) (out front back a b c : List ℕ) → a ≡ out ++ front → b ≡ joined_onto f [] a xs → c ≡ b ++ back → c ≡ out ++ (front ++ (joined f xs ++ back))
between f xs out front back a b c p q r =
    r ∙ ap (λ (v : List ℕ). v ++ back) (behind f xs out front a b p q) ∙ append_assoc out (front ++ joined f xs) back ∙ ap (λ (v : List ℕ). out ++ v) (append_assoc front (joined f xs) back)

pub on_ok : {A E P Q : Type 0} (r : Result A E) → OnOk r P → (P → Q) → OnOk r Q
on_ok (Ok x) p f = f p
on_ok (Err e) p f = tt

pub ranges_behind : (rs : List RangeForm) (out a b : List ℕ) → 1 ≤ length rs → a ≡ out ++ codes " from " → b ≡ joined_onto range_text [] a rs → b ≡ out ++ ranges_text rs
ranges_behind [] out a b h p q = absurd (omega arith)
ranges_behind (r ∷ rs) out a b h p q = behind range_text (r ∷ rs) out (codes " from ") a b p q

pub keys_behind : (ks : List KeyForm) (out a b : List ℕ) → 1 ≤ length ks → a ≡ out ++ codes " sort by " → b ≡ joined_onto key_text [] a ks → b ≡ out ++ keys_text ks
keys_behind [] out a b h p q = absurd (omega arith)
keys_behind (k ∷ ks) out a b h p q = behind key_text (k ∷ ks) out (codes " sort by ") a b p q

pub machine_between : (ss : List StepForm) (out a b c : List ℕ) → 1 ≤ length ss → a ≡ out ++ codes "machine " → b ≡ joined_onto step_text [] a ss → c ≡ b ++ codes " \\g\n" → c ≡ out ++ machine_text ss
machine_between [] out a b c h p q r = absurd (omega arith)
machine_between (s ∷ ss) out a b c h p q r = between step_text (s ∷ ss) out (codes "machine ") (codes " \\g\n") a b c p q r
