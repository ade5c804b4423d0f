-- What a read of the next record does.
use Rattle.std.proofs.Common.{◌≡◌, ◌∙◌, sym, refl, ap, inl, Bool, true, false, List, [], ◌∷◌, ℕ, Some, Bor}
use Rattle.csv.specs.Reading.{Reached, ReadRecord, default_config, source_of}
use Rattle.csv.proofs.ReadFacts.{rows-end, rows-more}
use Rattle.catalog_load.specs.Tables.{Record}
use Rattle.catalog_load.specs.Records.{IsPlain, Pops, TextReader, known, left_in, records_at, is_between}
use Rattle.catalog_load.proofs.RecordRuns.{all_read, reached_front}

abbrev pub Reads : TextReader → TextReader → Bool → Record → Type 0
Reads a b found fields = ReadRecord (λ (s : Bor (List ℕ)). Some s.now) a b found fields

module _ (a b : TextReader) (fields : Record) (p : IsPlain a) where
  more : Reads a b true fields → (z : List ℕ) × (source_of (λ (s : Bor (List ℕ)). Some s.now) b ≡ Some z) × (is_between b.state ≡ true) × (records_at a.state p.bytes ≡ fields ∷ records_at b.state z)
  unfolding Reached
  more r =
      let m = rows-more (λ (s : Bor (List ℕ)). Some s.now) a b fields default_config a.state p.bytes p.bytes [] p.config p.known (refl, refl) r in
      let front = reached_front default_config a.state b.state p.bytes m.0 (fields ∷ []) p.between m.2 in
      (m.0, m.1, front.0, front.1)

  pub pops : (found : Bool) → Reads a b found fields → Pops found (left_in a) fields (left_in b)
  unfolding left_in
  pops true r =
      let m = more r in
      ap (λ o. records_at a.state (known o)) p.known ∙ m.3 ∙ ap (λ o. fields ∷ records_at b.state (known o)) (sym m.1)
  pops false r =
      ap (λ o. records_at a.state (known o)) p.known ∙ all_read default_config a.state p.bytes (rows-end (λ (s : Bor (List ℕ)). Some s.now) a b fields default_config p.bytes p.config p.known r)

  pub plain_behind : (found : Bool) → Reads a b found fields → b.first ≡ true → found ≡ true → IsPlain b
  plain_behind true r first e =
      let m = more r in
      record { trim = r.3 ∙ p.trim; ready = inl first; config = r.2 ∙ p.config; between = m.2; bytes = m.0; known = m.1 }
  plain_behind false r first e = cc
