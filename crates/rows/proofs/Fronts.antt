-- Bytes that begin with others.
use Rattle.std.proofs.Common.{◌≡◌, ℕ, List, ◌++◌, length, take, drop, refl, sym, ap, ◌∙◌, append_assoc, take_at, take-append-drop}
use Rattle.rows.specs.RowFields.{IsFront}

front_of : (old now more : List ℕ) → now ≡ old ++ more → IsFront old now
front_of old now more e = ap (take (length old)) e ∙ take_at old more (length old) refl

pub front_more : (old now next more : List ℕ) → IsFront old now → next ≡ now ++ more → IsFront old next
front_more old now next more h e =
    let split : now ≡ old ++ drop (length old) now = sym (take-append-drop (length old) now) ∙ ap (λ xs. xs ++ drop (length old) now) h in
    front_of old next (drop (length old) now ++ more) (e ∙ (ap (λ xs. xs ++ more) split ∙ append_assoc old (drop (length old) now) more))
