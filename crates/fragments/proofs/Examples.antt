-- The fragments of a few plans, by their numbers.
use Rattle.std.proofs.Common.{◌≡◌, ℕ, pos, false, List, [], ◌∷◌, map, Option, Some, None, refl}
use Rattle.rows.specs.declared.field.ColType.TheVariants as col
use Rattle.rows.specs.declared.plain.Column.{Column}
use Rattle.rows.specs.declared.plain.KeyPair.{KeyPair}
use Rattle.rows.specs.declared.plain.Relation.{Relation}
use Rattle.heap_page.specs.declared.head.FileKind.TheVariants as kind
use Rattle.rel_meaning.specs.declared.expr.CompareOp.TheVariants as op
use Rattle.rel_meaning.specs.Expression as ex
use Rattle.rel_meaning.specs.Expression.{Expression, Question}
use Rattle.plan_tree.specs.declared.tree.Method.TheVariants.{Hash, Merge}
use Rattle.plan_tree.specs.declared.tree.Way.TheVariants as way
use Rattle.plan_tree.specs.Inputs.{inputs_of}
use Rattle.plan_tree.specs.Pieces.{Piece}
use Rattle.plan_tree.specs.Trees.{Shape, scan, join}
use Rattle.plan_tree.specs.Views.{Planned}
use Rattle.seq_optimizer.specs.declared.stats.VarStats.{VarStats}
use Rattle.fragments.specs.Homes.{Known}
use Rattle.fragments.specs.Scripts.{cut_plans, last_numbers}

record Numbers : Type 0 where
  statement : ℕ
  inputs : List ℕ
  positions : ℕ
  pages : ℕ
  time : ℕ

abbrev numbers : Piece → Numbers
numbers p = record { statement = p.statement; inputs = inputs_of p; positions = p.positions; pages = p.pages; time = p.time }

abbrev text : Column
text = record { name = []; col_type = col.Text; nullable = false }

abbrev integer : Column
integer = record { name = []; col_type = col.Int4; nullable = false }

-- three employees and three departments, on one page each
abbrev emp : Relation
emp = record { name = []; file = []; columns = text ∷ text ∷ integer ∷ []; index = None }

abbrev dept : Relation
dept = record { name = []; file = []; columns = text ∷ integer ∷ []; index = None }

abbrev company : Known
company = record {
  relations = emp ∷ dept ∷ [];
  files = record { kind = kind.Heap; pages = 1 } ∷ record { kind = kind.Heap; pages = 1 } ∷ [];
  indexes = [];
  kept = [];
}

abbrev three : VarStats
three = record { pages = 1; rows = 3; interval = None; height = 0 }

abbrev over : List ℕ → Option Expression → Question
over relations test = record {
  vars = map (λ r. record { name = []; relation = r }) relations;
  targets = record { name = []; expr = ex.column 0 0 } ∷ [];
  test = test;
  unique = false;
  keys = [];
}

-- e.dept = d.dname
abbrev same_dept : Expression
same_dept = ex.compare op.Equal (ex.column 0 1) (ex.column 1 0)

abbrev by_dept : KeyPair
by_dept = record { build = record { var = 0; col = 1 }; probe = record { var = 1; col = 0 } }

abbrev two_tables : Shape → Planned
two_tables t = record { query = over (0 ∷ 1 ∷ []) (Some same_dept); tree = t; cost = 0 }

hashed : map numbers (cut_plans company ((three ∷ three ∷ []) ∷ []) (two_tables (join Hash (scan 0 way.Heap []) (scan 1 way.Heap []) (by_dept ∷ []) []) ∷ []))
    ≡ record { statement = 0; inputs = []; positions = 1; pages = 1; time = 11 }
    ∷ record { statement = 0; inputs = 0 ∷ []; positions = 1; pages = 1; time = 14 } ∷ []
hashed = refl

merging : map numbers (cut_plans company ((three ∷ three ∷ []) ∷ []) (two_tables (join Merge (scan 0 way.Heap []) (scan 1 way.Heap []) (by_dept ∷ []) []) ∷ []))
    ≡ record { statement = 0; inputs = []; positions = 1; pages = 1; time = 11 }
    ∷ record { statement = 0; inputs = []; positions = 1; pages = 1; time = 11 }
    ∷ record { statement = 0; inputs = 0 ∷ 1 ∷ []; positions = 64; pages = 0; time = 6 } ∷ []
merging = refl

-- (e * (f * d))
three_tables : map numbers (cut_plans company ((three ∷ three ∷ three ∷ []) ∷ []) (record {
  query = over (0 ∷ 1 ∷ 0 ∷ []) (Some same_dept);
  tree = join Hash (scan 0 way.Heap []) (join Hash (scan 2 way.Heap []) (scan 1 way.Heap []) [] []) (by_dept ∷ []) [];
  cost = 53;
} ∷ []))
    ≡ record { statement = 0; inputs = []; positions = 1; pages = 1; time = 11 }
    ∷ record { statement = 0; inputs = []; positions = 1; pages = 1; time = 11 }
    ∷ record { statement = 0; inputs = 1 ∷ 0 ∷ []; positions = 1; pages = 1; time = 17 } ∷ []
three_tables = refl

-- the last five of a thousand entries, in an index of two levels
thousand : map numbers (cut_plans
    (record {
      relations = record { name = []; file = []; columns = integer ∷ []; index = Some 0 } ∷ [];
      files = record { kind = kind.Heap; pages = 2 } ∷ record { kind = kind.Index; pages = 4 } ∷ [];
      indexes = record { file = 1; key_type = col.Int4; entries = 1000; pages = 4; height = 2; heap_pages = 2 } ∷ [];
      kept = [];
    })
    ((record { pages = 2; rows = 1000; interval = Some (record { from = 995; upto = 1000 }); height = 2 } ∷ []) ∷ [])
    (record { query = over (0 ∷ []) None; tree = scan 0 (way.Index (record { from = 995; upto = 1000 })) []; cost = 61 } ∷ []))
    ≡ record { statement = 0; inputs = []; positions = 5; pages = 7; time = 61 } ∷ []
thousand = refl

-- a statement that keeps its answer, and one that joins the answer with the departments
abbrev keeping : Known
keeping = record company { kept = record { name = []; statement = 0; columns = text ∷ []; bounds = 0 ∷ [] } ∷ [] }

abbrev script : List Planned
script = record { query = over (0 ∷ []) None; tree = scan 0 way.Heap []; cost = 11 }
    ∷ record { query = over (2 ∷ 1 ∷ []) None; tree = join Hash (scan 1 way.Heap []) (scan 0 way.Heap []) [] []; cost = 0 } ∷ []

abbrev counted : List (List VarStats)
counted = (three ∷ []) ∷ (record { pages = 0; rows = 3; interval = None; height = 0 } ∷ three ∷ []) ∷ []

kept_read : map numbers (cut_plans keeping counted script)
    ≡ record { statement = 0; inputs = []; positions = 1; pages = 1; time = 11 }
    ∷ record { statement = 1; inputs = []; positions = 1; pages = 1; time = 11 }
    ∷ record { statement = 1; inputs = 0 ∷ 1 ∷ []; positions = 1; pages = 0; time = 6 } ∷ []
kept_read = refl

kept_lasts : last_numbers keeping counted script ≡ 0 ∷ 2 ∷ []
kept_lasts = refl
