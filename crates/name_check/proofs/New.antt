-- A name after `into` in a script without a fault is none that is kept already.
use Rattle.std.proofs.Common.{◌≡◌, ℕ, suc, ◌+◌, Bool, true, false, List, [], ◌∷◌, ◌++◌, Option}
use Rattle.std.proofs.Common.{Some, None, is_some, refl, sym, ap, ◌∙◌, append-nil, if◌then◌else◌}
use Rattle.std.specs.Option.{option_map, option_or}
use Rattle.postquel_tokens.specs.declared.fault.What.TheVariants as what
use Rattle.postquel_tokens.specs.declared.fault.TextErr.{TextErr}
use Rattle.postquel_tokens.specs.declared.form.IntoForm.{IntoForm}
use Rattle.postquel_tokens.specs.Forms.{Sentence}
use Rattle.kept_relations.specs.declared.kept.Kept.{Kept}
use Rattle.kept_relations.specs.KeptNames.{place_named}
use Rattle.name_check.specs.declared.heading.Heading.{Heading}
use Rattle.name_check.specs.declared.heading.HeadColumn.{HeadColumn}
use Rattle.name_check.specs.Faults.{heading_named}
use Rattle.name_check.specs.Headers.{kept_as, kept_name}
use Rattle.name_check.specs.Listed.{AreNew, IsNew, kept_named}
use Rattle.name_check.specs.Places.{place_by, same}
use Rattle.name_check.specs.Sentences.{has_fold, head_in, headings_after, into_fault, kept_heading}
use Rattle.name_check.specs.Sentences.{script_fault, sentence_fault}
use Rattle.name_check.specs.Types.{at}
use Rattle.name_check.specs.Whole.{asked_in}
use Rattle.name_check.proofs.KeptFit.{free_into}
use Rattle.name_check.proofs.Places.{place_is}
use Rattle.name_check.proofs.Sound.{both_none}

abbrev pub first_or : Bool → Option ℕ → Option ℕ
first_or b o = if b then Some 0 else o

-- what no item of a list and one more is, none of the list is, nor that one
lacking : {A : Type 0} (p : A → Bool) (xs : List A) (x : A) → place_by p (xs ++ x ∷ []) ≡ None →
    (place_by p xs ≡ None) × (p x ≡ false)
lacking p [] x e = by (p x) refl e where
  by : (b : Bool) → p x ≡ b → first_or b None ≡ None → (place_by p [] ≡ None) × (p x ≡ false)
  by true h e = absurd cc
  by false h e = (refl, h)
lacking p (y ∷ ys) x e = by (p y) refl e (lacking p ys x) where
  rest : (o : Option ℕ) → option_map suc o ≡ None → o ≡ None
  rest None e = refl
  rest (Some k) e = absurd cc

  by : (b : Bool) → p y ≡ b → first_or b (option_map suc (place_by p (ys ++ x ∷ []))) ≡ None →
      (place_by p (ys ++ x ∷ []) ≡ None → (place_by p ys ≡ None) × (p x ≡ false)) →
      (place_by p (y ∷ ys) ≡ None) × (p x ≡ false)
  by true h e others = absurd cc
  by false h e others =
      let parts : (place_by p ys ≡ None) × (p x ≡ false) =
      others (rest (place_by p (ys ++ x ∷ [])) e) in
      (rw (h, parts.0) refl, parts.1)

lacks : {A : Type 0} (p : A → Bool) (xs : List A) (x : A) → place_by p xs ≡ None → p x ≡ false →
    place_by p (xs ++ x ∷ []) ≡ None
lacks p [] x e h = rw h refl
lacks p (y ∷ ys) x e h = by (p y) refl e (λ none. lacks p ys x none h) where
  rest : (o : Option ℕ) → option_map suc o ≡ None → o ≡ None
  rest None e = refl
  rest (Some k) e = absurd cc

  by : (b : Bool) → p y ≡ b → first_or b (option_map suc (place_by p ys)) ≡ None →
      (place_by p ys ≡ None → place_by p (ys ++ x ∷ []) ≡ None) →
      place_by p (y ∷ (ys ++ x ∷ [])) ≡ None
  by true g e others = absurd cc
  by false g e others = rw (g, others (rest (place_by p ys) e)) refl

-- each name that is kept is a relation's
abbrev pub Known : List Heading → List Kept → Type 0
Known hs kept = (name : List ℕ) → heading_named hs name ≡ None → place_named name kept ≡ None

known_more : (hs : List Heading) (kept : List Kept) (h : Heading) (k : Kept) → h.name ≡ k.name →
    Known hs kept → Known (hs ++ h ∷ []) (kept ++ k ∷ [])
known_more hs kept h k e known name none =
    let parts : (heading_named hs name ≡ None) × (same h.name name ≡ false) =
    lacking (λ (h : Heading). same h.name name) hs h none in
    let other : same k.name name ≡ false = ap (λ n. same n name) (sym e) ∙ parts.1 in
    let before : place_by (λ (k : Kept). same k.name name) kept ≡ None =
    sym (place_is (λ (k : Kept). same k.name name) kept) ∙ known name parts.0 in
    place_is (λ (k : Kept). same k.name name) (kept ++ k ∷ [])
    ∙ lacks (λ (k : Kept). same k.name name) kept k before other

known_after : (hs : List Heading) (kept : List Kept) (s : Sentence) (head : List HeadColumn)
    (statement : ℕ) (into : Option IntoForm) → Known hs kept →
    Known (hs ++ kept_heading hs s into) (kept ++ kept_as head statement (kept_name into))
known_after hs kept s head statement None known = rw (append-nil hs, append-nil kept) known
known_after hs kept s head statement (Some into) known =
    known_more hs kept (record { name = into.name.text; columns = head_in hs s })
    (kept_named head statement into.name.text) refl known

new_name : (hs : List Heading) (kept : List Kept) (folds : Bool) (into : Option IntoForm) →
    Known hs kept → into_fault hs folds into ≡ None → IsNew kept (kept_name into)
new_name hs kept folds None known e = tt
new_name hs kept folds (Some into) known e =
    known into.name.text
    (none (heading_named hs into.name.text)
    (both_none (if folds then Some (at into.spot what.FoldInto) else None)
    (if is_some (heading_named hs into.name.text) then Some
    (at into.name.spot what.DoubleRelation) else None) e).1) where
      none : (o : Option ℕ) →
          (if is_some o then Some (at into.name.spot what.DoubleRelation) else None) ≡ None →
          o ≡ None
      none None e = refl
      none (Some k) e = absurd cc

pub all_new : (hs : List Heading) (kept : List Kept) (statement : ℕ) (ss : List Sentence) →
    Known hs kept → script_fault hs ss ≡ None → AreNew kept statement (asked_in hs ss)
all_new hs kept statement [] known e = tt
all_new hs kept statement (s ∷ ss) known e =
    let parts : (sentence_fault hs s ≡ None) × (script_fault (headings_after hs s) ss ≡ None) =
    both_none (sentence_fault hs s) (script_fault (headings_after hs s) ss) e in (
      new_name hs kept (has_fold s) s.kept known (free_into hs s parts.0),
      all_new (headings_after hs s) (kept ++ kept_as (head_in hs s) statement (kept_name s.kept))
          (statement + 1) ss (known_after hs kept s (head_in hs s) statement s.kept known) parts.1,
    )

pub all_new_first : (hs : List Heading) (ss : List Sentence) → script_fault hs ss ≡ None →
    AreNew [] 0 (asked_in hs ss)
all_new_first hs ss e = all_new hs [] 0 ss (λ name none. refl) e
