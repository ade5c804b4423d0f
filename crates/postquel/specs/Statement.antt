-- The grammar of statements and scripts, one rule a line.
use Rattle.std.specs.Prelude.{◌≡◌, Bool, true, false, List, [], ◌∷◌, ◌++◌, Option, Some, None}
use Rattle.postquel_tokens.specs.declared.token.Token.{Token}
use Rattle.postquel_tokens.specs.declared.token.Sign.TheVariants as sign
use Rattle.postquel_tokens.specs.declared.form.RangeForm.{RangeForm}
use Rattle.postquel_tokens.specs.declared.form.KeyForm.{KeyForm}
use Rattle.postquel_tokens.specs.declared.form.IntoForm.{IntoForm}
use Rattle.postquel_tokens.specs.declared.form.StepForm.{StepForm}
use Rattle.postquel_tokens.specs.Forms.{Phrase, Wish, Titled, Every, Column, Folded, Condition, Sentence}
use Rattle.postquel.specs.declared.class.Class.TheVariants as class
use Rattle.postquel_tokens.specs.declared.name.Key.TheVariants as key
use Rattle.postquel.specs.declared.class.Soft.{Soft}
use Rattle.postquel.specs.declared.class.Soft.TheVariants as soft
use Rattle.postquel.specs.declared.level.Level.TheVariants as level
use Rattle.postquel.specs.Class.{looks}
use Rattle.postquel.specs.Grammar.{ident_of, number_of}
use Rattle.postquel.specs.Parts.{OrNone, Listed}
use Rattle.postquel.specs.Program.{Program}
use Rattle.postquel.specs.Syntax.{Derives}

-- n = COND, n = FOLD(COND), v.all, v.c
pub data IsTarget : Wish → List Token → Type 0 where
  titled : {s : Soft} (n e : Token) {f : Phrase} {u : List Token} → looks n ≡ class.Name s → looks e ≡ class.Mark sign.Equal → Derives level.Or f u
      → IsTarget (Titled (ident_of n) f) (n ∷ e ∷ u)
  folded : {s : Soft} (n e g l r : Token) {f : Phrase} {u : List Token} → looks n ≡ class.Name s → looks e ≡ class.Mark sign.Equal → looks g ≡ class.Name soft.Fold
      → looks l ≡ class.Mark sign.Left → Derives level.Or f u → looks r ≡ class.Mark sign.Right → IsTarget (Folded (ident_of n) (ident_of g) f) (n ∷ e ∷ g ∷ l ∷ (u ++ r ∷ []))
  every : {s : Soft} (v d a : Token) → looks v ≡ class.Name s → looks d ≡ class.Mark sign.Dot → looks a ≡ class.Key key.All → IsTarget (Every (ident_of v)) (v ∷ d ∷ a ∷ [])
  column : {s q : Soft} (v d c : Token) → looks v ≡ class.Name s → looks d ≡ class.Mark sign.Dot → looks c ≡ class.Name q → IsTarget (Column (ident_of v) (ident_of c)) (v ∷ d ∷ c ∷ [])

-- v in R
pub data IsRange : RangeForm → List Token → Type 0 where
  range : {s q : Soft} (v i r : Token) → looks v ≡ class.Name s → looks i ≡ class.Key key.In → looks r ≡ class.Name q → IsRange (record { var = ident_of v; relation = ident_of r }) (v ∷ i ∷ r ∷ [])

pub data IsDirection : Bool → List Token → Type 0 where
  up : (u m : Token) → looks u ≡ class.Key key.Using → looks m ≡ class.Mark sign.Less → IsDirection false (u ∷ m ∷ [])
  down : (u m : Token) → looks u ≡ class.Key key.Using → looks m ≡ class.Mark sign.More → IsDirection true (u ∷ m ∷ [])

pub data IsSortKey : KeyForm → List Token → Type 0 where
  sort_key : {s : Soft} (n : Token) {b : Bool} {u : List Token} → looks n ≡ class.Name s → OrNone false IsDirection b u → IsSortKey (record { target = ident_of n; down = b }) (n ∷ u)

pub data IsUnique : Bool → List Token → Type 0 where
  unique : (t : Token) → looks t ≡ class.Key key.Unique → IsUnique true (t ∷ [])

pub data IsKept : Option IntoForm → List Token → Type 0 where
  kept : {s : Soft} (t n : Token) → looks t ≡ class.Key key.Into → looks n ≡ class.Name s → IsKept (Some (record { spot = t.spot; name = ident_of n })) (t ∷ n ∷ [])

pub data AreRanges : List RangeForm → List Token → Type 0 where
  ranges : (t : Token) {rs : List RangeForm} {u : List Token} → looks t ≡ class.Key key.From → Listed IsRange rs u → AreRanges rs (t ∷ u)

pub data IsTest : Option Condition → List Token → Type 0 where
  test : (t : Token) {f : Phrase} {u : List Token} → looks t ≡ class.Key key.Where → Derives level.Or f u → IsTest (Some (record { spot = t.spot; phrase = f })) (t ∷ u)

pub data AreKeys : List KeyForm → List Token → Type 0 where
  keys : (t b : Token) {ks : List KeyForm} {u : List Token} → looks t ≡ class.Key key.Sort → looks b ≡ class.Key key.By → Listed IsSortKey ks u → AreKeys ks (t ∷ b ∷ u)

pub data IsStatement : Sentence → List Token → Type 0 where
  retrieve : (t l r g : Token) {un : Bool} {k : Option IntoForm} {ws : List Wish} {rs : List RangeForm} {o : Option Condition} {ks : List KeyForm} {a b c d e f : List Token}
      → looks t ≡ class.Key key.Retrieve → OrNone false IsUnique un a → OrNone None IsKept k b → looks l ≡ class.Mark sign.Left → Listed IsTarget ws c → looks r ≡ class.Mark sign.Right
      → OrNone [] AreRanges rs d → OrNone None IsTest o e → OrNone [] AreKeys ks f → looks g ≡ class.Mark sign.Go
      → IsStatement (record { unique = un; kept = k; wishes = ws; ranges = rs; test = o; keys = ks }) (t ∷ (a ++ (b ++ l ∷ (c ++ r ∷ (d ++ (e ++ (f ++ g ∷ [])))))))

-- N after K
pub data IsStep : StepForm → List Token → Type 0 where
  step : (n a k : Token) → looks n ≡ class.Number → looks a ≡ class.Name soft.After → looks k ≡ class.Number
      → IsStep (record { backends = number_of n.kind; backends_spot = n.spot; after = number_of k.kind; after_spot = k.spot }) (n ∷ a ∷ k ∷ [])

pub data IsMachine : List StepForm → List Token → Type 0 where
  machine : (t g : Token) {ss : List StepForm} {u : List Token} → looks t ≡ class.Key key.Machine → Listed IsStep ss u → looks g ≡ class.Mark sign.Go → IsMachine ss (t ∷ (u ++ g ∷ []))

pub data AreStatements : List Sentence → List Token → Type 0 where
  empty : AreStatements [] []
  next : {s : Sentence} {ss : List Sentence} {u w : List Token} → IsStatement s u → AreStatements ss w → AreStatements (s ∷ ss) (u ++ w)

pub data IsScript : Program → List Token → Type 0 where
  script : {steps : List StepForm} {ss : List Sentence} {u w : List Token} → OrNone [] IsMachine steps u → AreStatements ss w → IsScript (record { steps = steps; sentences = ss }) (u ++ w)
