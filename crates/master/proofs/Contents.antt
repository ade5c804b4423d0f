-- What is kept of outputs and values stays what it must be.
use Rattle.std.proofs.Common.{◌≡◌, ℕ, zero, suc, ◌+◌, ◌<◌, ◌≤◌, List, [], ◌∷◌, length, map, replicate, set, get_or, refl, ap, sym, ◌∙◌, subst, arith, Option, Some, None, slice_get}
use Rattle.std.proofs.lemmas.List.{length-map, length-set}
use Rattle.rows.specs.declared.value.Value.{Value}
use Rattle.hash_join.specs.Table.{Table}
use Rattle.adjust_protocol.specs.Moves.{Running}
use Rattle.adjust_protocol.specs.Outputs.{put_outputs}
use Rattle.history.specs.Outline.{outline}
use Rattle.master.specs.Boards.{with_board}
use Rattle.master.specs.Content.{AreOuts, AreParts, HasContent, HasOutputs, IsOut, IsValue}
use Rattle.master.specs.Kind.{Slotted}
use Rattle.master.specs.Meaning.{Meaning, run_of}

abbrev Rows : Type 0
Rows = List (List Value)

-- only the board's running state changed
pub content_same : (m : Meaning) (f : ℕ) (s : Slotted) (z : Running) → HasContent m f s → HasContent m f (with_board s z s.board.outputs)
content_same m f s z h = record { size = h.size; outputs = h.outputs; value = h.value }

-- one output set
set_out : (P : ℕ → Rows → Type 0) (slots : List (Option Rows)) (q base : ℕ) (x : Rows) → ((p : ℕ) (rows : Rows) → slice_get slots p ≡ Some (Some rows) → P (base + p) rows) → P (base + q) x
    → (p : ℕ) (rows : Rows) → slice_get (set slots q (Some x)) p ≡ Some (Some rows) → P (base + p) rows
set_out P [] q base x all here p rows e = all p rows e
set_out P (s ∷ slots) zero base x all here zero rows e = subst (λ r. P (base + 0) r) (let same : x ≡ rows = cc in same) here
set_out P (s ∷ slots) zero base x all here (suc p) rows e = all (suc p) rows e
set_out P (s ∷ slots) (suc q) base x all here zero rows e = all zero rows e
set_out P (s ∷ slots) (suc q) base x all here (suc p) rows e =
    let z : base + suc p ≡ (base + 1) + p = omega arith in
    let y : base + suc q ≡ (base + 1) + q = omega arith in
    subst (λ n. P n rows) (sym z)
    (set_out P slots q (base + 1) x (λ j r i. let w : base + suc j ≡ (base + 1) + j = omega arith in subst (λ n. P n r) w (all (suc j) r i)) (subst (λ n. P n x) y here) p rows e)

-- outputs put at their places
put_out : (m : Meaning) (f : ℕ) (ps : List ℕ) (xs : List Rows) (slots : List (Option Rows)) → AreOuts m f ps xs → HasOutputs m f slots → HasOutputs m f (put_outputs ps xs slots)
put_out m f ps [] slots outs all = all
put_out m f [] (x ∷ xs) slots outs all = all
put_out m f (p ∷ ps) (x ∷ xs) slots outs all =
    put_out m f ps xs (set slots p (Some x)) (λ k rows e. outs (suc k) rows e) (λ q rows e.
    let z : 0 + q ≡ q = omega arith in
    let y : 0 + p ≡ p = omega arith in
    subst (λ n. IsOut m f n rows) z
    (set_out (λ n r. IsOut m f n r) slots p 0 x (λ j r i. let w : 0 + j ≡ j = omega arith in subst (λ n. IsOut m f n r) (sym w) (all j r i)) (subst (λ n. IsOut m f n x) (sym y) (outs 0 x refl)) q rows e))

length-put : (ps : List ℕ) (xs : List Rows) (slots : List (Option Rows)) → length (put_outputs ps xs slots) ≡ length slots
length-put ps [] slots = refl
length-put [] (x ∷ xs) slots = refl
length-put (p ∷ ps) (x ∷ xs) slots = length-put ps xs (set slots p (Some x)) ∙ length-set slots p (Some x)

pub content_put : (m : Meaning) (f : ℕ) (s : Slotted) (z : Running) (ps : List ℕ) (xs : List Rows) → AreOuts m f ps xs → HasContent m f s → HasContent m f (with_board s z (put_outputs ps xs s.board.outputs))
content_put m f s z ps xs outs h = record { size = length-put ps xs s.board.outputs ∙ h.size; outputs = put_out m f ps xs s.board.outputs outs h.outputs; value = h.value }

-- all outputs
got_mapped : (xs : List Rows) (p : ℕ) (rows : Rows) → slice_get xs p ≡ Some rows → slice_get (map Some xs) p ≡ Some (Some rows)
got_mapped [] p rows e = absurd (cc)
got_mapped (x ∷ xs) zero rows e = cc
got_mapped (x ∷ xs) (suc p) rows e = got_mapped xs p rows e

pub content_parts : (m : Meaning) (f : ℕ) (s : Slotted) (parts : List Rows) → HasContent m f s → map Some parts ≡ s.board.outputs → AreParts m f parts
content_parts m f s parts h is = record {
  size = sym (length-map parts Some) ∙ ap length is ∙ h.size;
  outs = λ p rows e. h.outputs p rows (ap (λ ys. slice_get ys p) (sym is) ∙ got_mapped parts p rows e);
}

-- before any output
abbrev no_rows : Option Rows
no_rows = None

pub none_there : (n p : ℕ) (rows : Rows) → slice_get (replicate n no_rows) p ≡ Some (Some rows) → ⊥
none_there zero p rows e = absurd (cc)
none_there (suc n) zero rows e = absurd (cc)
none_there (suc n) (suc p) rows e = none_there n p rows e
