-- A query that may be asked of the relations of a catalogue may be asked of their tables.
use Rattle.std.proofs.Common.{◌≡◌, ◌<◌, ℕ, ◌+◌, Bool, true, false, ◌&&◌, ◌||◌, is_some, List, [], ◌∷◌, ◌++◌, map, length, Option, Some, None, IsSome, IfSome, IfOk, OnOk, IsTrue, Result, Ok, Err, All, refl, sym, ap, ◌∙◌, subst, arith, append-nil, slice_get, if◌then◌else◌}
use Rattle.std.specs.List.{list_any}
use Rattle.std.specs.Option.{option_map}
use Rattle.std.proofs.lemmas.List.Elements.{All-nil, All-cons, All-head, All-tail, All-weaker}
use Rattle.rows.specs.declared.plain.Relation.{Relation}
use Rattle.rows.specs.declared.plain.Column.{Column}
use Rattle.rows.specs.declared.plain.LayoutColumn.{LayoutColumn}
use Rattle.rel_meaning.specs.declared.query.Var.{Var}
use Rattle.rel_meaning.specs.declared.query.Table.{Table}
use Rattle.rel_meaning.specs.declared.query.Query.{Query}
use Rattle.rel_meaning.specs.Expression as ex
use Rattle.rel_meaning.specs.Expression.{Expression, Question, question_of}
use Rattle.rel_meaning.specs.Typing.{type_of, is_truth, negate_type, integer_bound, arith_type, compare_type, truth_type}
use Rattle.rows.specs.Layouts as layouts
use Rattle.rel_meaning.specs.Meaning as meaning
use Rattle.rel_meaning.specs.Meaning.{IsResolved, layout_column}
use Rattle.postquel_tokens.specs.declared.fault.TextErr.{TextErr}
use Rattle.postquel_tokens.specs.declared.form.IntoForm.{IntoForm}
use Rattle.postquel_tokens.specs.Forms.{Sentence}
use Rattle.name_check.specs.declared.heading.Heading.{Heading}
use Rattle.name_check.specs.Checked.{Gives}
use Rattle.name_check.specs.Faults.{columns_at, column_type}
use Rattle.name_check.specs.Sentences.{heading_of, head_column, is_kept, kept_heading, question_in, questions_in, headings_after, script_fault, queries_of, or_fault}
use Rattle.name_check.specs.Resolved.{MayAsk, MayAskEach, AreTables, Answerable}
use Rattle.name_check.specs.Bridge as bridge
use Rattle.name_check.proofs.Any.{length_map}
use Rattle.name_check.proofs.Bridge.{types_agree, mapped}

-- two ways to give a column's type that agree give an expression one type
pub same_types : (e : Expression) (f g : ℕ → ℕ → Option LayoutColumn) → ((v c : ℕ) → f v c ≡ g v c) → type_of e f ≡ type_of e g
same_types (ex.number n) f g h = refl
same_types (ex.word w) f g h = refl
same_types (ex.truth b) f g h = refl
same_types (ex.column v c) f g h = h v c
same_types (ex.negate e) f g h = ap (λ o. negate_type (integer_bound o)) (same_types e f g h)
same_types (ex.opposite e) f g h = ap (λ o. if is_truth o then Some truth_type else None) (same_types e f g h)
same_types (ex.arith op a b) f g h = ap (λ o. arith_type op (integer_bound o) (integer_bound (type_of b f))) (same_types a f g h) ∙ ap (λ o. arith_type op (integer_bound (type_of a g)) (integer_bound o)) (same_types b f g h)
same_types (ex.compare op a b) f g h = ap (λ o. compare_type o (type_of b f)) (same_types a f g h) ∙ ap (λ o. compare_type (type_of a g) o) (same_types b f g h)
same_types (ex.both a b) f g h = ap (λ o. if is_truth o && is_truth (type_of b f) then Some truth_type else None) (same_types a f g h) ∙ ap (λ o. if is_truth (type_of a g) && is_truth o then Some truth_type else None) (same_types b f g h)
same_types (ex.either a b) f g h = ap (λ o. if is_truth o && is_truth (type_of b f) then Some truth_type else None) (same_types a f g h) ∙ ap (λ o. if is_truth (type_of a g) && is_truth o then Some truth_type else None) (same_types b f g h)
same_types (ex.is_null e negated) f g h = ap (λ o. if is_some o then Some truth_type else None) (same_types e f g h)

pub layouts_map : (cs : List Column) → map (λ c. c.layout) (map head_column cs) ≡ map layout_column cs
layouts_map [] = refl
layouts_map (c ∷ cs) = ap (λ ls. layout_column c ∷ ls) (layouts_map cs)

some_same : {A : Type 0} (a b : A) → Some a ≡ Some b → a ≡ b
some_same a b e = cc

same_columns : (r : Option Relation) (t : Option Table) → option_map (λ t. t.columns) t ≡ option_map (λ r. r.columns) r → map (λ c. c.layout) (columns_at (option_map heading_of r)) ≡ meaning.columns_at t
same_columns None None e = refl
same_columns None (Some t) e = absurd cc
same_columns (Some r) None e = absurd cc
same_columns (Some r) (Some t) e = layouts_map r.columns ∙ ap (λ cs. map layout_column cs) (sym (some_same t.columns r.columns e))

relation_columns : (catalog : List Relation) (db : List Table) (k : ℕ) → map (λ t. t.columns) db ≡ map (λ r. r.columns) catalog → map (λ c. c.layout) (columns_at (slice_get (map heading_of catalog) k)) ≡ meaning.columns_of db k
relation_columns catalog db k e =
    let there : option_map (λ t. t.columns) (slice_get db k) ≡ option_map (λ r. r.columns) (slice_get catalog k) =
    sym (mapped (λ (t : Table). t.columns) db k) ∙ (ap (λ cs. slice_get cs k) e ∙ mapped (λ (r : Relation). r.columns) catalog k) in
    ap (λ h. map (λ c. c.layout) (columns_at h)) (mapped heading_of catalog k) ∙ same_columns (slice_get catalog k) (slice_get db k) there

same_layout : (catalog : List Relation) (db : List Table) (n : ℕ) (vs : List Var) → map (λ t. t.columns) db ≡ map (λ r. r.columns) catalog → bridge.layout_from (map heading_of catalog) n vs ≡ meaning.layout_from db n vs
same_layout catalog db n [] e = refl
same_layout catalog db n (v ∷ vs) e =
    ap (λ cs. record { var = n; columns = cs } ∷ bridge.layout_from (map heading_of catalog) (n + 1) vs) (relation_columns catalog db v.relation e) ∙
    ap (λ ls. record { var = n; columns = meaning.columns_of db v.relation } ∷ ls) (same_layout catalog db (n + 1) vs e)

column_same : (catalog : List Relation) (db : List Table) (vs : List Var) → map (λ t. t.columns) db ≡ map (λ r. r.columns) catalog → (v c : ℕ) →
    column_type (map heading_of catalog) vs v c ≡ layouts.column_type (meaning.layout_of db vs) v c
column_same catalog db vs e v c = sym (types_agree (map heading_of catalog) vs v c) ∙ ap (λ l. layouts.column_type l v c) (same_layout catalog db 0 vs e)

as_many : (catalog : List Relation) (db : List Table) → map (λ t. t.columns) db ≡ map (λ r. r.columns) catalog → length (map heading_of catalog) ≡ length db
as_many catalog db e = length_map heading_of catalog ∙ (sym (length_map (λ (r : Relation). r.columns) catalog) ∙ (ap length (sym e) ∙ length_map (λ (t : Table). t.columns) db))

pub test_same : (f g : ℕ → ℕ → Option LayoutColumn) → ((v c : ℕ) → f v c ≡ g v c) → (test : Option Expression) → IfSome test (λ t. IsTrue (is_truth (type_of t f))) → IfSome test (λ t. IsTrue (is_truth (type_of t g)))
test_same f g h None t = t
test_same f g h (Some e) t = subst (λ o. IsTrue (is_truth o)) (same_types e f g h) t

-- a query that may be asked of the relations may be asked of their tables
pub resolved : (catalog : List Relation) (db : List Table) (q : Question) → AreTables catalog db → MayAsk (map heading_of catalog) q → IsResolved db q
resolved catalog db q h m =
    let same = column_same catalog db q.vars h.columns in
    record {
      few = omega (arith, m.few);
      relations = subst (λ n. All (λ v. v.relation < n) q.vars) (as_many catalog db h.columns) m.relations;
      targets = All-weaker (λ t. IsSome (type_of t.expr (column_type (map heading_of catalog) q.vars))) (λ t. IsSome (type_of t.expr (layouts.column_type (meaning.layout_of db q.vars))))
          (λ t k. subst IsSome (same_types t.expr (column_type (map heading_of catalog) q.vars) (layouts.column_type (meaning.layout_of db q.vars)) same) k) q.targets m.targets;
      test = test_same (column_type (map heading_of catalog) q.vars) (layouts.column_type (meaning.layout_of db q.vars)) same q.test m.test;
      tables = h.tables;
    }

none_kept : (o : Option IntoForm) → is_some o ≡ false → o ≡ None
none_kept None e = refl
none_kept (Some i) e = absurd cc

neither : (a b : Bool) → (a || b) ≡ false → (a ≡ false) × (b ≡ false)
neither true b e = absurd cc
neither false b e = (refl, e)

-- where no statement keeps its answer, all name the same relations
each_asked : (hs : List Heading) (ss : List Sentence) → list_any is_kept ss ≡ false → MayAskEach hs ss → All (MayAsk hs) (questions_in hs ss)
each_asked hs [] e m = All-nil (MayAsk hs)
each_asked hs (s ∷ ss) e m =
    let parts : (is_kept s ≡ false) × (list_any is_kept ss ≡ false) = neither (is_kept s) (list_any is_kept ss) e in
    let stays : headings_after hs s ≡ hs = ap (λ o. hs ++ kept_heading hs s o) (none_kept s.kept parts.0) ∙ append-nil hs in
    All-cons (MayAsk hs) (question_in hs s) (questions_in (headings_after hs s) ss) m.0
    (subst (λ now. All (MayAsk hs) (questions_in now ss)) (sym stays) (each_asked hs ss parts.1 (subst (λ now. MayAskEach now ss) stays m.1)))

ok_same : {A : Type 0} (a b : A) (o : Option TextErr) → or_fault a o ≡ Ok b → a ≡ b
ok_same a b None e = cc
ok_same a b (Some f) e = absurd cc

All-mapped : {A B : Type 0} (P : B → Type 0) (f : A → B) (xs : List A) → All P (map f xs) → All (λ x. P (f x)) xs
All-mapped P f [] h = All-nil (λ x. P (f x))
All-mapped P f (x ∷ xs) h = All-cons (λ x. P (f x)) x xs (All-head P (f x) (map f xs) h) (All-mapped P f xs (All-tail P (f x) (map f xs) h))

-- where no statement keeps its answer, all queries may be asked of the catalogue
pub asked : (catalog : List Relation) (ss : List Sentence) (qs : List Query) → queries_of (map heading_of catalog) ss ≡ Ok (map question_of qs) → MayAskEach (map heading_of catalog) ss → list_any is_kept ss ≡ false →
    All (λ q. MayAsk (map heading_of catalog) (question_of q)) qs
asked catalog ss qs e m none =
    All-mapped (MayAsk (map heading_of catalog)) question_of qs
    (subst (λ xs. All (MayAsk (map heading_of catalog)) xs) (ok_same (questions_in (map heading_of catalog) ss) (map question_of qs) (script_fault (map heading_of catalog) ss) e) (each_asked (map heading_of catalog) ss none m))

pub answerable : (catalog : List Relation) (ss : List Sentence) (qs : List Query) → queries_of (map heading_of catalog) ss ≡ Ok (map question_of qs) → MayAskEach (map heading_of catalog) ss → Answerable catalog ss qs
answerable catalog ss qs e m db h none =
    All-weaker (λ q. MayAsk (map heading_of catalog) (question_of q)) (λ q. IsResolved db (question_of q)) (λ q k. resolved catalog db (question_of q) h k) qs (asked catalog ss qs e m none)

pub if_answerable : (catalog : List Relation) (ss : List Sentence) (r : Result (List Query) TextErr) → Gives (λ qs. map question_of qs) (queries_of (map heading_of catalog) ss) r →
    OnOk r (MayAskEach (map heading_of catalog) ss) → IfOk r (λ qs. Answerable catalog ss qs)
if_answerable catalog ss (Ok qs) e m = answerable catalog ss qs e m
if_answerable catalog ss (Err f) e m = tt
