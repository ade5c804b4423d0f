-- The text that explains plans and their fragments.
use Rattle.std.specs.Prelude.{ℕ, ◌+◌, ◌==◌, List, [], ◌∷◌, ◌++◌, codes, decimal, Option, Some, None, slice_get, if◌then◌else◌}
use Rattle.rows.specs.declared.plain.Machine.{Machine}
use Rattle.rel_meaning.specs.declared.query.Var.{Var}
use Rattle.io_cpu_scheduler.specs.declared.load.Load.{Load}
use Rattle.io_cpu_scheduler.specs.declared.load.Class.{Class}
use Rattle.io_cpu_scheduler.specs.declared.load.Class.TheVariants.{Io, Cpu}
use Rattle.io_cpu_scheduler.specs.Degrees.{class_at, solo_of}
use Rattle.plan_tree.specs.declared.tree.Way.{Way}
use Rattle.plan_tree.specs.declared.tree.Way.TheVariants as way
use Rattle.plan_tree.specs.declared.tree.Method.{Method}
use Rattle.plan_tree.specs.declared.tree.Method.TheVariants as method
use Rattle.plan_tree.specs.Trees.{Shape, one, scan, join}
use Rattle.plan_tree.specs.Pieces.{Piece}
use Rattle.plan_tree.specs.Views.{Planned}

-- ---- trees

abbrev pub name_if : Option Var → List ℕ
name_if None = []
name_if (Some v) = v.name

-- the name of a variable
abbrev pub name_of : List Var → ℕ → List ℕ
name_of vars v = name_if (slice_get vars v)

abbrev pub way_text : Way → List ℕ
way_text way.Heap = codes ":heap"
way_text (way.Index interval) = codes ":index"

abbrev pub method_text : Method → List ℕ
method_text method.Hash = codes " * "
method_text method.Merge = codes " ~ "

-- `one`, a variable and how it is read, or both sides of a join in parentheses, the build side or left side first
abbrev pub tree_text : List Var → Shape → List ℕ
tree_text vars (one tests) = codes "one"
tree_text vars (scan v w tests) = name_of vars v ++ way_text w
tree_text vars (join m a b keys tests) = codes "(" ++ tree_text vars a ++ method_text m ++ tree_text vars b ++ codes ")"

-- ---- fragments

abbrev pub class_text : Class → List ℕ
class_text Io = codes " io"
class_text Cpu = codes " cpu"

abbrev pub load_of : ℕ → Piece → Load
load_of number piece = record { fragment = number; pages = piece.pages; time = piece.time }

-- a name and a number
abbrev pub labelled : List ℕ → ℕ → List ℕ
labelled label number = label ++ decimal number

abbrev pub size_text : ℕ → Piece → List ℕ
size_text number piece = labelled (codes "fragment ") number ++ labelled (codes " positions ") piece.positions ++ labelled (codes " pages ") piece.pages ++ labelled (codes " time ") piece.time

abbrev pub load_text : Machine → Load → List ℕ
load_text machine load = class_text (class_at machine load) ++ labelled (codes " solo ") (solo_of machine load)

-- the line of a fragment
abbrev pub fragment_line : Machine → ℕ → Piece → List ℕ
fragment_line machine number piece = size_text number piece ++ load_text machine (load_of number piece) ++ codes "\n"

abbrev pub line_if : Machine → ℕ → ℕ → Piece → List ℕ
line_if machine statement number piece = if piece.statement == statement then fragment_line machine number piece else []

-- the lines of a statement's fragments among these, which are numbered from a number on
abbrev pub fragment_lines : Machine → ℕ → ℕ → List Piece → List ℕ
fragment_lines machine statement number [] = []
fragment_lines machine statement number (piece ∷ pieces) = line_if machine statement number piece ++ fragment_lines machine statement (number + 1) pieces

-- ---- statements

-- the lines of a plan; statements are counted from 0, and shown from 1
abbrev pub plan_lines : ℕ → Planned → List ℕ
plan_lines statement plan = labelled (codes "statement ") (statement + 1) ++ labelled (codes " cost ") plan.cost ++ codes "\nplan " ++ tree_text plan.query.vars plan.tree ++ codes "\n"

abbrev pub statement_lines : Machine → List Piece → ℕ → Planned → List ℕ
statement_lines machine pieces statement plan = plan_lines statement plan ++ fragment_lines machine statement 0 pieces

-- the lines of plans, whose statements are numbered from a number on
abbrev pub explained : Machine → List Piece → ℕ → List Planned → List ℕ
explained machine pieces statement [] = []
explained machine pieces statement (plan ∷ plans) = statement_lines machine pieces statement plan ++ explained machine pieces (statement + 1) plans
