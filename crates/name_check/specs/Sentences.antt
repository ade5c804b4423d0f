-- The first fault of a statement and of a script, and the queries that they are.
use Rattle.std.specs.Prelude.{◌≡◌, All, ◌+◌, ℕ, Bool, true, false, not, ◌&&◌, nat_lt, List, [], ◌∷◌, ◌++◌, map, length, codes, Option, Some, None, is_some, Result, Ok, Err, if◌then◌else◌}
use Rattle.std.specs.List.{flat_map, list_any}
use Rattle.std.specs.Option.{option_map, option_or, unwrap_or}
use Rattle.std.specs.Str.{bytes_eq}
use Rattle.rows.specs.declared.field.ColType.TheVariants as col
use Rattle.rows.specs.declared.order.SortKey.{SortKey}
use Rattle.postquel_tokens.specs.declared.fault.Spot.{Spot}
use Rattle.postquel_tokens.specs.declared.form.Ident.{Ident}
use Rattle.postquel_tokens.specs.declared.form.RangeForm.{RangeForm}
use Rattle.postquel_tokens.specs.declared.form.KeyForm.{KeyForm}
use Rattle.postquel_tokens.specs.declared.form.IntoForm.{IntoForm}
use Rattle.postquel_tokens.specs.declared.fault.What.TheVariants as what
use Rattle.postquel_tokens.specs.declared.fault.TextErr.{TextErr}
use Rattle.postquel_tokens.specs.Forms as phrase
use Rattle.postquel_tokens.specs.Forms.{Phrase, Wish, Condition, Sentence}
use Rattle.rel_meaning.specs.declared.query.Var.{Var}
use Rattle.rows.specs.declared.plain.LayoutColumn.{LayoutColumn}
use Rattle.rel_meaning.specs.Expression as ex
use Rattle.rel_meaning.specs.Expression.{Expression, Output, Question}
use Rattle.rel_meaning.specs.Typing.{is_truth}
use Rattle.name_check.specs.declared.heading.HeadColumn.{HeadColumn}
use Rattle.name_check.specs.declared.heading.Heading.{Heading}
use Rattle.name_check.specs.Types.{at, truth, is}
use Rattle.name_check.specs.Faults.{var_named, heading_named, column_named, columns_of, grown, names_in, range_fault, fault_in, meaning_in, type_in, NumbersFit}
use Rattle.rel_meaning.specs.Meaning.{layout_column}
use Rattle.rows.specs.declared.plain.Column.{Column}
use Rattle.rows.specs.declared.plain.Relation.{Relation}

-- a column of an answer
pub record Shown : Type 0 where
  pub name : List ℕ
  pub expr : Expression
  pub layout : LayoutColumn

abbrev pub head_of : Shown → HeadColumn
head_of s = record { name = s.name; layout = s.layout }

abbrev pub output_by : Shown → Output
output_by s = record { name = s.name; expr = s.expr }

abbrev pub is_fold : Wish → Bool
is_fold (phrase.Folded name fold e) = true
is_fold other = false

abbrev pub has_fold : Sentence → Bool
has_fold s = list_any is_fold s.wishes

abbrev pub is_kept : Sentence → Bool
is_kept s = is_some s.kept

-- the ranges of `from`
abbrev pub var_of : List Heading → RangeForm → Var
var_of headings r = record { name = r.var.text; relation = unwrap_or (heading_named headings r.relation.text) 0 }

-- the variables that targets name
abbrev pub wish_names : Wish → List (List ℕ)
wish_names (phrase.Titled name e) = names_in e
wish_names (phrase.Every v) = v.text ∷ []
wish_names (phrase.Column v c) = v.text ∷ []
wish_names (phrase.Folded name fold e) = names_in e

abbrev pub test_names : Option Condition → List (List ℕ)
test_names None = []
test_names (Some c) = names_in c.phrase

-- all range variables of a statement
abbrev pub vars_of : List Heading → Sentence → List Var
vars_of headings s = grown headings (map (var_of headings) s.ranges) (flat_map wish_names s.wishes ++ test_names s.test)

abbrev pub shown : List Heading → List Var → List ℕ → Phrase → Shown
shown headings vars name e = record { name = name; expr = meaning_in headings vars e; layout = unwrap_or (type_in headings vars e) truth }

abbrev pub all_shown : ℕ → ℕ → List HeadColumn → List Shown
all_shown var k [] = []
all_shown var k (c ∷ cs) = record { name = c.name; expr = ex.column var k; layout = c.layout } ∷ all_shown var (k + 1) cs

-- the columns that a target shows
abbrev pub wish_shown : List Heading → List Var → Wish → List Shown
wish_shown headings vars (phrase.Titled name e) = shown headings vars name.text e ∷ []
wish_shown headings vars (phrase.Column v c) = shown headings vars c.text (phrase.Dotted v c) ∷ []
wish_shown headings vars (phrase.Folded name fold e) = shown headings vars name.text e ∷ []
wish_shown headings vars (phrase.Every v) = let place = unwrap_or (var_named vars v.text) 0 in all_shown place 0 (columns_of headings vars place)

abbrev pub into_fault : List Heading → Bool → Option IntoForm → Option TextErr
into_fault headings folds None = None
into_fault headings folds (Some into) =
    option_or (if folds then Some (at into.spot what.FoldInto) else None)
    (if is_some (heading_named headings into.name.text) then Some (at into.name.spot what.DoubleRelation) else None)

-- a range behind these
abbrev pub range_form_fault : List Heading → List Var → RangeForm → Option TextErr
range_form_fault headings before r =
    if nat_lt (length before) 6 then
    (if is_some (var_named before r.var.text) then Some (at r.var.spot what.DoubleRange)
    else if is_some (heading_named headings r.relation.text) then None else Some (at r.relation.spot what.NoRelation))
    else Some (at r.var.spot what.TooManyRanges)

abbrev pub ranges_fault : List Heading → List Var → List RangeForm → Option TextErr
ranges_fault headings before [] = None
ranges_fault headings before (r ∷ rs) = option_or (range_form_fault headings before r) (ranges_fault headings (before ++ var_of headings r ∷ []) rs)

abbrev pub sum_fault : Ident → Option LayoutColumn → Option TextErr
sum_fault fold None = None
sum_fault fold (Some c) = if bytes_eq fold.text (codes "sum") && not (is c col.Int4) then Some (at fold.spot what.TypeMismatch) else None

abbrev pub wish_spot : Wish → Spot
wish_spot (phrase.Titled name e) = name.spot
wish_spot (phrase.Every v) = v.spot
wish_spot (phrase.Column v c) = v.spot
wish_spot (phrase.Folded name fold e) = name.spot

-- in a target's expression
abbrev pub inner_fault : List Heading → List Var → Wish → Option TextErr
inner_fault headings vars (phrase.Titled name e) = fault_in headings vars e
inner_fault headings vars (phrase.Every v) = range_fault vars v
inner_fault headings vars (phrase.Column v c) = fault_in headings vars (phrase.Dotted v c)
inner_fault headings vars (phrase.Folded name fold e) = option_or (fault_in headings vars e) (sum_fault fold (type_in headings vars e))

-- of columns behind those of earlier targets
abbrev pub columns_fault : Bool → Spot → List HeadColumn → List Shown → Option TextErr
columns_fault limited spot before new =
    if list_any (λ s. is_some (column_named before s.name)) new then Some (at spot what.DoubleTarget)
    else if limited && nat_lt 32 (length before + length new) then Some (at spot what.TooManyColumns) else None

abbrev pub wishes_fault : List Heading → Bool → List Var → List HeadColumn → List Wish → Option TextErr
wishes_fault headings limited vars before [] = None
wishes_fault headings limited vars before (w ∷ ws) =
    option_or (inner_fault headings vars w) (option_or (columns_fault limited (wish_spot w) before (wish_shown headings vars w))
    (wishes_fault headings limited vars (before ++ map head_of (wish_shown headings vars w)) ws))

abbrev pub test_fault : List Heading → List Var → Option Condition → Option TextErr
test_fault headings vars None = None
test_fault headings vars (Some c) = option_or (fault_in headings vars c.phrase) (if is_truth (type_in headings vars c.phrase) then None else Some (at c.spot what.TypeMismatch))

abbrev pub keys_fault : List HeadColumn → List KeyForm → Option TextErr
keys_fault head [] = None
keys_fault head (k ∷ ks) = option_or (if is_some (column_named head k.target.text) then None else Some (at k.target.spot what.NoSortTarget)) (keys_fault head ks)

-- the header: names, types and bounds of the targets in text order
abbrev pub head_in : List Heading → Sentence → List HeadColumn
head_in headings s = flat_map (λ w. map head_of (wish_shown headings (vars_of headings s) w)) s.wishes

abbrev pub sentence_fault : List Heading → Sentence → Option TextErr
sentence_fault headings s =
    option_or (into_fault headings (has_fold s) s.kept)
    (option_or (ranges_fault headings [] s.ranges)
    (option_or (wishes_fault headings (is_some s.kept) (vars_of headings s) [] s.wishes)
    (option_or (test_fault headings (vars_of headings s) s.test)
    (keys_fault (head_in headings s) s.keys))))

abbrev pub sort_key : List HeadColumn → KeyForm → SortKey
sort_key head k = record { column = unwrap_or (column_named head k.target.text) 0; down = k.down }

-- the targets that are folds, or that are none
abbrev pub plain_outputs : List Heading → List Var → Wish → List Output
plain_outputs headings vars w = if is_fold w then [] else map output_by (wish_shown headings vars w)

abbrev pub fold_outputs : List Heading → List Var → Wish → List Output
fold_outputs headings vars w = if is_fold w then map output_by (wish_shown headings vars w) else []

-- a statement's query: of one with folds the other targets and then the operands
abbrev pub question_in : List Heading → Sentence → Question
question_in headings s = record {
  vars = vars_of headings s;
  targets = flat_map (plain_outputs headings (vars_of headings s)) s.wishes ++ flat_map (fold_outputs headings (vars_of headings s)) s.wishes;
  test = option_map (λ c. meaning_in headings (vars_of headings s) c.phrase) s.test;
  unique = s.unique && not (has_fold s);
  keys = if has_fold s then [] else map (sort_key (head_in headings s)) s.keys;
}

abbrev pub kept_heading : List Heading → Sentence → Option IntoForm → List Heading
kept_heading headings s None = []
kept_heading headings s (Some into) = record { name = into.name.text; columns = head_in headings s } ∷ []

-- the relations that statements behind this one may name
abbrev pub headings_after : List Heading → Sentence → List Heading
headings_after headings s = headings ++ kept_heading headings s s.kept

abbrev pub script_fault : List Heading → List Sentence → Option TextErr
script_fault headings [] = None
script_fault headings (s ∷ ss) = option_or (sentence_fault headings s) (script_fault (headings_after headings s) ss)

abbrev pub questions_in : List Heading → List Sentence → List Question
questions_in headings [] = []
questions_in headings (s ∷ ss) = question_in headings s ∷ questions_in (headings_after headings s) ss

abbrev pub or_fault : {A : Type 0} → A → Option TextErr → Result A TextErr
or_fault a None = Ok a
or_fault a (Some f) = Err f

-- the queries of a script, or its first fault
abbrev pub queries_of : List Heading → List Sentence → Result (List Question) TextErr
queries_of headings script = or_fault (questions_in headings script) (script_fault headings script)

abbrev pub head_column : Column → HeadColumn
head_column c = record { name = c.name; layout = layout_column c }

-- a relation of the catalogue
abbrev pub heading_of : Relation → Heading
heading_of r = record { name = r.name; columns = map head_column r.columns }

-- a script without a fault over a catalogue
abbrev pub HasNoFault : List Relation → List Sentence → Type 0
HasNoFault catalog script = script_fault (map heading_of catalog) script ≡ None

abbrev pub WishNumbers : Wish → Type 0
WishNumbers (phrase.Titled name e) = NumbersFit e
WishNumbers (phrase.Every v) = Unit {0}
WishNumbers (phrase.Column v c) = Unit {0}
WishNumbers (phrase.Folded name fold e) = NumbersFit e

abbrev pub TestNumbers : Option Condition → Type 0
TestNumbers None = Unit {0}
TestNumbers (Some c) = NumbersFit c.phrase

pub record HasNumbers (s : Sentence) : Type 0 where
  pub wishes : All WishNumbers s.wishes
  pub test : TestNumbers s.test
