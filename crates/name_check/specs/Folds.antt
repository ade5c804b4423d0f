-- The fold of a statement with folds, and its sort keys.
use Rattle.std.specs.Prelude.{ℕ, ◌+◌, Bool, List, [], ◌∷◌, map, codes, length, Option, Some, None}
use Rattle.std.specs.Prelude.{if◌then◌else◌}
use Rattle.std.specs.List.{flat_map}
use Rattle.std.specs.Str.{bytes_eq}
use Rattle.rows.specs.declared.plain.Relation.{Relation}
use Rattle.aggregate_op.specs.declared.fold.FoldOp.{FoldOp}
use Rattle.aggregate_op.specs.declared.fold.FoldOp.TheVariants.{Count, Min, Max, Sum}
use Rattle.aggregate_op.specs.declared.fold.FoldPlace.{FoldPlace}
use Rattle.aggregate_op.specs.declared.fold.FoldPlace.TheVariants.{Group, Op}
use Rattle.aggregate_op.specs.declared.fold.Fold.{Fold}
use Rattle.aggregate_op.specs.declared.fold.FoldPlan.{FoldPlan}
use Rattle.postquel_tokens.specs.Forms as phrase
use Rattle.postquel_tokens.specs.Forms.{Wish, Sentence}
use Rattle.rel_meaning.specs.declared.query.Var.{Var}
use Rattle.name_check.specs.declared.heading.Heading.{Heading}
use Rattle.name_check.specs.Sentences.{has_fold, head_in, heading_of, headings_after, sort_key}
use Rattle.name_check.specs.Sentences.{vars_of, wish_shown}

-- the op of that name; a script has these four
abbrev pub op_named : List ℕ → FoldOp
op_named name =
    if bytes_eq name (codes "count") then Count
    else if bytes_eq name (codes "sum") then Sum
    else if bytes_eq name (codes "min") then Min
    else Max

-- what a target takes of a group: an op, or it is a value of the group
abbrev pub op_of : Wish → Option FoldOp
op_of (phrase.Folded name fold e) = Some (op_named fold.text)
op_of other = None

-- the same for each column that a target shows
abbrev pub wish_ops : List Heading → List Var → Wish → List (Option FoldOp)
wish_ops headings vars w = map (λ s. op_of w) (wish_shown headings vars w)

-- for each column of the answer in text order
abbrev pub column_ops : List Heading → Sentence → List (Option FoldOp)
column_ops headings s = flat_map (wish_ops headings (vars_of headings s)) s.wishes

-- the number of columns that are values of the group
abbrev pub groups_in : List (Option FoldOp) → ℕ
groups_in [] = 0
groups_in (None ∷ columns) = groups_in columns + 1
groups_in (Some op ∷ columns) = groups_in columns

-- the ops of the others
abbrev pub ops_in : List (Option FoldOp) → List FoldOp
ops_in [] = []
ops_in (None ∷ columns) = ops_in columns
ops_in (Some op ∷ columns) = op ∷ ops_in columns

-- where each column's value stands, behind columns of this many group values and ops
abbrev pub places_behind : ℕ → ℕ → List (Option FoldOp) → List FoldPlace
places_behind groups ops [] = []
places_behind groups ops (None ∷ columns) = Group groups ∷ places_behind (groups + 1) ops columns
places_behind groups ops (Some op ∷ columns) = Op ops ∷ places_behind groups (ops + 1) columns

abbrev pub fold_of : List (Option FoldOp) → Fold
fold_of columns =
    record { groups = groups_in columns; ops = ops_in columns; places = places_behind 0 0 columns }

-- a statement's fold and the sort keys of its answer, where it has a fold
abbrev pub plan_in : List Heading → Sentence → Option FoldPlan
plan_in headings s =
    if has_fold s then Some
    (record {
      fold = fold_of (column_ops headings s);
      keys =
          map (sort_key (head_in headings s)) s.keys;
    })
    else None

-- for each statement of a script
abbrev pub plans_in : List Heading → List Sentence → List (Option FoldPlan)
plans_in headings [] = []
plans_in headings (s ∷ ss) = plan_in headings s ∷ plans_in (headings_after headings s) ss

-- of a script over a catalogue
abbrev pub plans_of : List Relation → List Sentence → List (Option FoldPlan)
plans_of catalog script = plans_in (map heading_of catalog) script
