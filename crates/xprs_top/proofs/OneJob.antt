-- Files give one job or have one first fault.
use Rattle.std.proofs.Common.{◌≡◌, ℕ, List, map, sym, ap, subst, ◌∙◌, inl, inr, Ok, Err, Result}
use Rattle.rows.specs.declared.plain.Relation.{Relation}
use Rattle.postquel_tokens.specs.declared.fault.Spot.{Spot}
use Rattle.postquel_tokens.specs.declared.fault.What.{What}
use Rattle.postquel_tokens.specs.declared.token.Token.{Token}
use Rattle.postquel_tokens.specs.Lex.{lex_of}
use Rattle.postquel.specs.Program.{Program}
use Rattle.postquel.specs.Reading as script
use Rattle.postquel.proofs.OneReading.{one_reading}
use Rattle.catalog_load.specs.Readings as catalog
use Rattle.catalog_load.proofs.OneCatalog.{one_catalog}
use Rattle.name_check.specs.Machine.{machine_steps}
use Rattle.name_check.specs.Sentences.{heading_of, queries_of}
use Rattle.xprs_top.specs.declared.status.Status.{Status}
use Rattle.xprs_top.specs.Requests.{Request}
use Rattle.xprs_top.specs.Readings.{Files, InFile, IsCatalog, IsChecked, IsProgram, IsScript, IsJob, Just, Then, check_of, checked_in, fetch_of, job_by, text_fault}

abbrev pub IsOne : {A E : Type 0} → (Result A E → Type 0) → Type 0
IsOne {A} {E} read = (a b : Result A E) → read a → read b → a ≡ b

one_just : {A : Type 0} (found : Result A Status) → IsOne (Just found)
one_just found a b p q = sym p ∙ q

ok_same : {A E : Type 0} (x y : A) → ◌≡◌ {A = Result A E} (Ok x) (Ok y) → x ≡ y
ok_same x y e = cc

err_same : {A E : Type 0} (x y : E) → ◌≡◌ {A = Result A E} (Err x) (Err y) → x ≡ y
err_same x y e = cc

ok_err : {A E : Type 0} (x : A) (y : E) → ◌≡◌ {A = Result A E} (Ok x) (Err y) → ⊥
ok_err x y e = cc

module _ {A B : Type 0} (first : Result A Status → Type 0) (next : A → Result B Status → Type 0) (one : IsOne first) (each : (x : A) → IsOne (next x)) where
  after : (x y : A) (a b : Result B Status) → first (Ok x) → first (Ok y) → next x a → next y b → a ≡ b
  after x y a b h k f g = each y a b (subst (λ z. next z a) (ok_same x y (one (Ok x) (Ok y) h k)) f) g

  pub one_then : IsOne (Then first next)
  one_then (Ok y) (Ok z) (x, h, f) (w, k, g) = after x w (Ok y) (Ok z) h k f g
  one_then (Ok y) (Err e) (x, h, f) (inl k) = absurd (ok_err x e (one (Ok x) (Err e) h k))
  one_then (Ok y) (Err e) (x, h, f) (inr (w, k, g)) = after x w (Ok y) (Err e) h k f g
  one_then (Err e) (Ok z) (inl h) (w, k, g) = absurd (ok_err w e (one (Ok w) (Err e) k h))
  one_then (Err e) (Ok z) (inr (x, h, f)) (w, k, g) = after x w (Err e) (Ok z) h k f g
  one_then (Err e) (Err d) (inl h) (inl k) = ap (λ s. Err s) (err_same e d (one (Err e) (Err d) h k))
  one_then (Err e) (Err d) (inl h) (inr (w, k, g)) = absurd (ok_err w e (one (Ok w) (Err e) k h))
  one_then (Err e) (Err d) (inr (x, h, f)) (inl k) = absurd (ok_err x d (one (Ok x) (Err d) h k))
  one_then (Err e) (Err d) (inr (x, h, f)) (inr (w, k, g)) = after x w (Err e) (Err d) h k f g

one_in_file : {A : Type 0} (name : List ℕ) (read : Result A (What × Spot) → Type 0) → IsOne read → IsOne (InFile name read)
one_in_file name read one (Ok x) (Ok y) h k = ap (λ z. Ok z) (ok_same x y (one (Ok x) (Ok y) h k))
one_in_file name read one (Ok x) (Err e) h (f, k, s) = absurd (ok_err x f (one (Ok x) (Err f) h k))
one_in_file name read one (Err e) (Ok y) (f, h, s) k = absurd (ok_err y f (one (Ok y) (Err f) k h))
one_in_file name read one (Err e) (Err d) (f, h, s) (g, k, t) = ap (λ z. Err z) (s ∙ (ap (text_fault name) (err_same f g (one (Err f) (Err g) h k)) ∙ sym t))

module _ (text : List ℕ) where
  abbrev Lexed : Type 0
  Lexed = Result (List Token) (What × Spot)

  of_tokens : (s t : List Token) (a b : Result Program (What × Spot)) → ◌≡◌ {A = Lexed} (lex_of text) (Ok s) → ◌≡◌ {A = Lexed} (lex_of text) (Ok t) → script.IsReading s a → script.IsReading t b → a ≡ b
  of_tokens s t a b h k f g = one_reading t a b (subst (λ z. script.IsReading z a) (ok_same s t (sym h ∙ k)) f) g

  one_program : IsOne (IsProgram text)
  one_program (Ok p) (Ok q) (s, h, f) (t, k, g) = of_tokens s t (Ok p) (Ok q) h k f g
  one_program (Ok p) (Err e) (s, h, f) (inl k) = absurd (ok_err s e (sym h ∙ k))
  one_program (Ok p) (Err e) (s, h, f) (inr (t, k, g)) = of_tokens s t (Ok p) (Err e) h k f g
  one_program (Err e) (Ok q) (inl h) (t, k, g) = absurd (ok_err t e (sym k ∙ h))
  one_program (Err e) (Ok q) (inr (s, h, f)) (t, k, g) = of_tokens s t (Err e) (Ok q) h k f g
  one_program (Err e) (Err d) (inl h) (inl k) = ap (λ z. Err z) (err_same e d (sym h ∙ k))
  one_program (Err e) (Err d) (inl h) (inr (t, k, g)) = absurd (ok_err t e (sym k ∙ h))
  one_program (Err e) (Err d) (inr (s, h, f)) (inl k) = absurd (ok_err s d (sym h ∙ k))
  one_program (Err e) (Err d) (inr (s, h, f)) (inr (t, k, g)) = of_tokens s t (Err e) (Err d) h k f g

one_check : (relations : List Relation) (name : List ℕ) (program : Program) → IsOne (check_of relations name program)
one_check relations name program =
    one_then _ _ (one_just (checked_in name (machine_steps program.steps))) (λ steps. one_then _ _ (one_just (checked_in name (queries_of (map heading_of relations) program.sentences))) (λ questions. one_just _))

one_script : (files : Files) (relations : List Relation) (name : List ℕ) → IsOne (IsScript files relations name)
one_script files relations name = one_then _ _ (one_just (fetch_of files name)) (λ bytes. one_then _ _ (one_in_file name (IsProgram bytes) (one_program bytes)) (one_check relations name))

one_catalog_in : (files : Files) (name : List ℕ) → IsOne (IsCatalog files name)
one_catalog_in files name = one_then _ _ (one_just (fetch_of files name)) (λ bytes. one_in_file name (catalog.IsReading bytes) (one_catalog bytes))

one_checked : (files : Files) (request : Request) → IsOne (IsChecked files request)
one_checked files request = one_then _ _ (one_catalog_in files request.catalog) (λ relations. one_script files relations request.script)

pub one_job : (files : Files) (request : Request) → IsOne (IsJob files request)
one_job files request = one_then _ _ (one_checked files request) (λ checked. one_just (job_by files request.aim checked))
