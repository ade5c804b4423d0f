use Rattle.std.proofs.Common.{◌≡◌, ◌≤◌, take, Ok}
use Rattle.xp_outside.specs.Outside.{Stands}
use Rattle.xprs_top.specs.Inputs.{OnFiles}
use Rattle.xprs_top.specs.Readings.{tables_of}
use Rattle.xprs_top.proofs.Stored.{Loaded}
use Rattle.xprs_top.proofs.input.read_tables.Given as goal

-- the tables so far are those of the relations so far
abbrev pub invariant-loop-relation : goal.invariant-loop-relation
invariant-loop-relation g l = record {
  files : g.S.Shelf.files l.shelf ≡ g.S.Shelf.files l.fn.shelf;
  count : g.S.Shelf.faults l.fn.shelf ≤ g.S.Shelf.faults l.shelf;
  quiet : Stands (g.S.Shelf.faults l.fn.shelf) (g.S.Shelf.faults l.shelf);
  told : OnFiles (g.S.Shelf.files l.fn.shelf) (λ files. tables_of files (take l.relation-index l.relation-items) ≡ Ok l.tables.items);
  loaded : Loaded l.relation-items l.relation-index l.tables.items;
}
