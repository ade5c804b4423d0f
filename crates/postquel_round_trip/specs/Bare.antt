-- Scripts without the places of their parts.
use Rattle.std.specs.Prelude.{map}
use Rattle.std.specs.Option.{option_map}
use Rattle.postquel_tokens.specs.declared.fault.Spot.{Spot}
use Rattle.postquel_tokens.specs.declared.form.Ident.{Ident}
use Rattle.postquel_tokens.specs.declared.form.RangeForm.{RangeForm}
use Rattle.postquel_tokens.specs.declared.form.KeyForm.{KeyForm}
use Rattle.postquel_tokens.specs.declared.form.IntoForm.{IntoForm}
use Rattle.postquel_tokens.specs.declared.form.StepForm.{StepForm}
use Rattle.postquel_tokens.specs.Forms.{Phrase, Wish, Titled, Every, Column, Folded, Condition, Sentence}
use Rattle.postquel_tokens.specs.Forms as form
use Rattle.postquel.specs.Program.{Program}

-- stands for every place
abbrev pub nowhere : Spot
nowhere = record { line = 0; col = 0 }

abbrev pub bare_ident : Ident → Ident
bare_ident x = record { text = x.text; spot = nowhere }

unfoldable pub bare_phrase : Phrase → Phrase
bare_phrase (form.Number n) = form.Number n
bare_phrase (form.Word w) = form.Word w
bare_phrase (form.Truth b) = form.Truth b
bare_phrase (form.Dotted v c) = form.Dotted (bare_ident v) (bare_ident c)
bare_phrase (form.Unary op s a) = form.Unary op nowhere (bare_phrase a)
bare_phrase (form.Binary op s a b) = form.Binary op nowhere (bare_phrase a) (bare_phrase b)
bare_phrase (form.IsNull s a n) = form.IsNull nowhere (bare_phrase a) n

abbrev pub bare_wish : Wish → Wish
bare_wish (Titled n f) = Titled (bare_ident n) (bare_phrase f)
bare_wish (Every v) = Every (bare_ident v)
bare_wish (Column v c) = Column (bare_ident v) (bare_ident c)
bare_wish (Folded n g f) = Folded (bare_ident n) (bare_ident g) (bare_phrase f)

abbrev pub bare_range : RangeForm → RangeForm
bare_range r = record { var = bare_ident r.var; relation = bare_ident r.relation }

abbrev pub bare_key : KeyForm → KeyForm
bare_key k = record { target = bare_ident k.target; down = k.down }

abbrev pub bare_into : IntoForm → IntoForm
bare_into i = record { spot = nowhere; name = bare_ident i.name }

abbrev pub bare_condition : Condition → Condition
bare_condition c = record { spot = nowhere; phrase = bare_phrase c.phrase }

abbrev pub bare_step : StepForm → StepForm
bare_step s = record { backends = s.backends; backends_spot = nowhere; after = s.after; after_spot = nowhere }

abbrev pub bare_sentence : Sentence → Sentence
bare_sentence s = record {
  unique = s.unique;
  kept = option_map bare_into s.kept;
  wishes = map bare_wish s.wishes;
  ranges = map bare_range s.ranges;
  test = option_map bare_condition s.test;
  keys = map bare_key s.keys;
}

-- a script without its places
abbrev pub bare : Program → Program
bare p = record { steps = map bare_step p.steps; sentences = map bare_sentence p.sentences }
