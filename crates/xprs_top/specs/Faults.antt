-- The line and the number of a status.
use Rattle.std.specs.Prelude.{ℕ, List, [], ◌∷◌, ◌++◌, codes, decimal, Option, Some, None}
use Rattle.std.specs.List.{flat_map}
use Rattle.xprs_top.specs.declared.piece.Piece.{Piece}
use Rattle.xprs_top.specs.declared.piece.Piece.TheVariants.{Bytes, Number, Bound}
use Rattle.postquel_tokens.specs.declared.fault.What.{What}
use Rattle.postquel_tokens.specs.declared.fault.What.TheVariants as what
use Rattle.catalog_load.specs.declared.fault.TableWhat.{TableWhat}
use Rattle.catalog_load.specs.declared.fault.TableWhat.TheVariants as table
use Rattle.xprs_top.specs.declared.status.Status.{Status}
use Rattle.xprs_top.specs.declared.status.Status.TheVariants.{Done, Usage, Refused, ShelfFault, DriveFault, Bad, SinkFault, NoMemory, DriveFull, NotBuilt, TooLarge}
use Rattle.xprs_top.specs.declared.status.Unbuilt.{Unbuilt}
use Rattle.xprs_top.specs.declared.status.Unbuilt.TheVariants as unbuilt
use Rattle.xprs_top.specs.declared.status.Refused.TheVariants.{Missing, TooLong, Script, Table}

-- the name of a fault of a catalogue or a script
abbrev pub what_name : What → List ℕ
what_name what.NotUtf8 = codes "NotUtf8"
what_name what.LongName = codes "LongName"
what_name what.BigNumber = codes "BigNumber"
what_name what.UnclosedText = codes "UnclosedText"
what_name what.BadEscape = codes "BadEscape"
what_name what.LongText = codes "LongText"
what_name what.BadChar = codes "BadChar"
what_name what.Unexpected = codes "Unexpected"
what_name what.TooDeep = codes "TooDeep"
what_name what.StatementTooLong = codes "StatementTooLong"
what_name what.TooManyStatements = codes "TooManyStatements"
what_name what.TooManyRanges = codes "TooManyRanges"
what_name what.DoubleRange = codes "DoubleRange"
what_name what.NoRelation = codes "NoRelation"
what_name what.NoRange = codes "NoRange"
what_name what.NoColumn = codes "NoColumn"
what_name what.TypeMismatch = codes "TypeMismatch"
what_name (what.TooWide bound) = codes "TooWide"
what_name what.DoubleTarget = codes "DoubleTarget"
what_name what.NoSortTarget = codes "NoSortTarget"
what_name what.TooManyRelations = codes "TooManyRelations"
what_name what.DoubleRelation = codes "DoubleRelation"
what_name what.TooManyColumns = codes "TooManyColumns"
what_name what.DoubleColumn = codes "DoubleColumn"
what_name what.BadDegree = codes "BadDegree"
what_name what.BadStep = codes "BadStep"
what_name what.FoldInto = codes "FoldInto"

-- the bound of a value that is too wide
abbrev pub what_bound : What → Option ℕ
what_bound (what.TooWide bound) = Some bound
what_bound other = None

-- what stands behind a fault's name
abbrev pub bound_text : Option ℕ → List ℕ
bound_text None = []
bound_text (Some bound) = codes " " ++ decimal bound

-- the name of a table's fault
abbrev pub table_name : TableWhat → List ℕ
table_name table.NoHeader = codes "NoHeader"
table_name table.BadHeader = codes "BadHeader"
table_name table.TooManyRows = codes "TooManyRows"
table_name table.FieldCount = codes "FieldCount"
table_name table.NotInt4 = codes "NotInt4"
table_name table.OutOfInt4 = codes "OutOfInt4"
table_name table.NotBool = codes "NotBool"
table_name table.NotUtf8 = codes "NotUtf8"
table_name table.TextTooLong = codes "TextTooLong"
table_name table.RowTooLong = codes "RowTooLong"

-- parts one after another, behind the program's name and before a line feed
abbrev pub line : List (List ℕ) → List ℕ
line parts = flat_map (λ part. part) (codes "xprs: " ∷ parts ++ codes "\n" ∷ [])

-- what isn't built
abbrev pub unbuilt_name : Unbuilt → List ℕ
unbuilt_name unbuilt.Run = codes "run is"
unbuilt_name unbuilt.Generation = codes "gen is"
unbuilt_name unbuilt.Trace = codes "--trace is"

abbrev pub fault_line : Status → List ℕ
fault_line Done = []
fault_line Usage = line (codes "usage" ∷ [])
fault_line (Refused (Missing name)) = line (name ∷ codes ": missing" ∷ [])
fault_line (Refused (TooLong name)) = line (name ∷ codes ": too long" ∷ [])
fault_line (Refused (Script name row col what)) = line (name ∷ codes ":" ∷ decimal row ∷ codes ":" ∷ decimal col ∷ codes ": " ∷ what_name what ∷ bound_text (what_bound what) ∷ [])
fault_line (Refused (Table name number column what)) = line (name ∷ codes ": record " ∷ decimal number ∷ codes " column " ∷ decimal column ∷ codes ": " ∷ table_name what ∷ [])
fault_line ShelfFault = line (codes "shelf failed" ∷ [])
fault_line (DriveFault None) = line (codes "rack failed" ∷ [])
fault_line (DriveFault (Some d)) = line (codes "drive " ∷ decimal d ∷ codes " failed" ∷ [])
fault_line (Bad bad) = line (codes "bad page: file " ∷ decimal bad.file ∷ codes " page " ∷ decimal bad.page ∷ codes " rule " ∷ decimal bad.rule ∷ [])
fault_line SinkFault = line (codes "output failed" ∷ [])
fault_line NoMemory = line (codes "no memory" ∷ [])
fault_line (DriveFull d needs capacity) = line (codes "drive " ∷ decimal d ∷ codes " needs " ∷ decimal needs ∷ codes " pages and has " ∷ decimal capacity ∷ [])
fault_line (NotBuilt what) = line (unbuilt_name what ∷ codes " not built yet" ∷ [])
fault_line (TooLarge statement) = line (codes "statement " ∷ decimal statement ∷ codes " too large" ∷ [])

-- a piece of a line
abbrev pub piece_bytes : Piece → List ℕ
piece_bytes (Bytes b) = b.now
piece_bytes (Number n) = decimal n
piece_bytes (Bound b) = bound_text b

abbrev pub number_of : Status → ℕ
number_of Done = 0
number_of Usage = 1
number_of (Refused r) = 2
number_of ShelfFault = 3
number_of (DriveFault d) = 4
number_of (Bad bad) = 5
number_of SinkFault = 6
number_of NoMemory = 7
number_of (DriveFull d needs capacity) = 8
number_of (NotBuilt what) = 9
number_of (TooLarge statement) = 10
