-- Pages of an index on drives.
use Rattle.std.proofs.Common.{◌≡◌, ℕ, zero, suc, ◌+◌, ◌-◌, ◌<◌, ◌≤◌, List, [], ◌∷◌, ◌++◌, length, get_or, take, drop, map, flat_map, None, Some, refl, sym, ap, ap₂, subst, ◌∙◌, arith, inl, inr, length-append}
use Rattle.std.specs.Prelude.{slice_get, slice_range, ◌⊎◌}
use Rattle.std.specs.List.{All, AllByRecursion}
use Rattle.std.proofs.lemmas.Bool.{cases_lt}
use Rattle.std.proofs.lemmas.List.{take_at, length-map}
use Rattle.rows.specs.RowBytes.{value_bytes}
use Rattle.xp_outside.specs.declared.drive.Drive.{Ghosts}
use Rattle.heap_page.specs.declared.map.FileMap.{FileMap}
use Rattle.heap_page.specs.Blocks.{joined, weight_of}
use Rattle.heap_page.specs.Maps.{drive_of, address_of, IsPlace, HasPage, HasPages}
use Rattle.heap_page.specs.Stores.{TellsAt, AreQuiet, AreWritten, HaveRoom}
use Rattle.rows.specs.declared.plain.KeyEntry.{KeyEntry}
use Rattle.key_index.specs.Bytes.{item_bytes, page_of, tail_bytes, weight}
use Rattle.key_index.specs.Entries.{Item}
use Rattle.key_index.specs.Files.{index_pages, level_pages, pages_of_levels}
use Rattle.key_index.specs.Levels.{levels_from}
use Rattle.key_index.specs.declared.node.Node.{Node}
use Rattle.key_index.specs.declared.node.Level.{Level}
use Rattle.key_index.specs.Nodes.{AreKeys, IsLevel, IsNode, level_blocks, node_item, node_items, starts_of}
use Rattle.key_index.specs.Written.{AllStand, FirstStand}
use Rattle.heap_page.proofs.Drives.{apart, quiet_none, quiet_trans, room_kept, tells_kept, wrote_none, wrote_trans}
use Rattle.heap_page.proofs.Found.{get_below, there}
use Rattle.key_index.proofs.Indexed.{level_page}
use Rattle.key_index.proofs.Nodes.{blocks_are, levels_here, root_pages, some_blocks, starts_count}
use Rattle.key_index.proofs.Written.{weight_is}

module _ {D : Type 0} (g : Ghosts D) where
  -- one page more
  pub first_more : (map : FileMap) (file n : ℕ) (pages : List (List ℕ)) (page : List ℕ) (bs cs : List D) → slice_get pages n ≡ Some page →
      AreWritten g (λ d a. (d ≡ drive_of map n) × (a ≡ address_of map file n)) bs cs →
      ((drive : D) → slice_get cs (drive_of map n) ≡ Some drive → TellsAt (g.pages drive) (address_of map file n) page) →
      FirstStand g map file pages n bs → FirstStand g map file pages (n + 1) cs
  first_more map file n pages page bs cs there_is h now before = λ p bytes c lt at at_c. by p bytes c at at_c (cases_lt p n) lt where
    by : (p : ℕ) (bytes : List ℕ) (c : D) → slice_get pages p ≡ Some bytes → slice_get cs (drive_of map p) ≡ Some c → (p < n) ⊎ (n ≤ p) → p < n + 1 → TellsAt (g.pages c) (address_of map file p) bytes
    by p bytes c at at_c (inr ge) lt =
        let e : p ≡ n = omega arith in
        let same : page ≡ bytes = some_page page bytes (sym there_is ∙ (ap (slice_get pages) (sym e) ∙ at)) in
        subst (λ (k : ℕ). (x : D) → slice_get cs (drive_of map k) ≡ Some x → TellsAt (g.pages x) (address_of map file k) bytes) (sym e)
        (subst (λ (b : List ℕ). (x : D) → slice_get cs (drive_of map n) ≡ Some x → TellsAt (g.pages x) (address_of map file n) b) same now) c at_c where
          some_page : (x y : List ℕ) → Some x ≡ Some y → x ≡ y
          some_page x y q = cc
    by p bytes c at at_c (inl less) lt =
        let b = there bs (drive_of map p) (omega (arith, get_below cs (drive_of map p) c at_c, h.len)) in
        let w = h.each (drive_of map p) b.0 c b.1 at_c in
        tells_kept (λ a. (drive_of map p ≡ drive_of map n) × (a ≡ address_of map file n)) (g.pages b.0) (g.pages c) (address_of map file p) bytes w.others
        (λ out. apart map file p n less out.0 out.1) (before p bytes b.0 less at b.1)

  -- ---- the pages of one level

  pub record Writing (map : FileMap) (file : ℕ) (pages : List (List ℕ)) (base done : ℕ) (olds news : List D) : Type 0 where
    pub wrote : AreWritten g (IsPlace map file) olds news
    pub quiet : AreQuiet g None olds news
    pub stands : FirstStand g map file pages base olds → FirstStand g map file pages (base + done) news
    pub room : HaveRoom g map news
    pub len : length news ≡ map.drives

  module _ (map : FileMap) (file : ℕ) (pages : List (List ℕ)) (base : ℕ) (olds : List D) where
    pub starts : HaveRoom g map olds → length olds ≡ map.drives → Writing map file pages base 0 olds olds
    starts room len = record {
      wrote = wrote_none g (IsPlace map file) olds;
      quiet = quiet_none g None olds;
      stands = λ h. let e : base + 0 ≡ base = omega arith in subst (λ (n : ℕ). FirstStand g map file pages n olds) (sym e) h;
      room = room;
      len = len;
    }

    pub wrote_page : (done : ℕ) (bs cs : List D) → Writing map file pages base done olds bs → HasPage map.files.items file (base + done) →
        AreWritten g (λ d a. (d ≡ drive_of map (base + done)) × (a ≡ address_of map file (base + done))) bs cs → AreWritten g (IsPlace map file) olds cs
    wrote_page done bs cs w has h =
        wrote_trans g (IsPlace map file) (λ d a. (d ≡ drive_of map (base + done)) × (a ≡ address_of map file (base + done))) (IsPlace map file) olds bs cs (λ d x k. k) (λ d x k. (base + done, has, sym k.0, sym k.1)) w.wrote h

    pub writes : (done : ℕ) (page : List ℕ) (bs cs : List D) → Writing map file pages base done olds bs → HasPage map.files.items file (base + done) → slice_get pages (base + done) ≡ Some page →
        AreWritten g (λ d a. (d ≡ drive_of map (base + done)) × (a ≡ address_of map file (base + done))) bs cs →
        ((drive : D) → slice_get cs (drive_of map (base + done)) ≡ Some drive → TellsAt (g.pages drive) (address_of map file (base + done)) page) →
        AreQuiet g None bs cs → Writing map file pages base (done + 1) olds cs
    writes done page bs cs w has at h now quiet = record {
      wrote = wrote_page done bs cs w has h;
      quiet = quiet_trans g None olds bs cs w.wrote.len w.quiet quiet;
      stands = λ before.
          let e : base + done + 1 ≡ base + (done + 1) = omega arith in
          subst (λ (n : ℕ). FirstStand g map file pages n cs) e (first_more map file (base + done) pages page bs cs at h now (w.stands before));
      room = room_kept g map (λ d a. (d ≡ drive_of map (base + done)) × (a ≡ address_of map file (base + done))) bs cs h w.room;
      len = h.len ∙ w.len;
    }

  pub all_stand : (map : FileMap) (file n : ℕ) (pages : List (List ℕ)) (drives : List D) → length pages ≡ n → FirstStand g map file pages n drives → AllStand g map file pages drives
  all_stand map file n pages drives len h = λ page bytes drive at at_d. h page bytes drive (omega (arith, len, below pages page bytes at)) at at_d where
    below : (xs : List (List ℕ)) (i : ℕ) (x : List ℕ) → slice_get xs i ≡ Some x → i < length xs
    below xs i x e = get_below xs i x e

  pub none_stand : (map : FileMap) (file : ℕ) (pages : List (List ℕ)) (drives : List D) → FirstStand g map file pages 0 drives
  none_stand map file pages drives = λ page bytes drive lt at at_d. absurd (omega arith)

pub has_page : (map : FileMap) (file n page : ℕ) → HasPages map.files.items file n → page < n → HasPage map.files.items file page
has_page map file n page h lt = (h.0, h.1, omega (arith, h.2, lt))

-- ---- one page of a level

get_front : {X : Type 0} (xs ys : List X) (n : ℕ) (x : X) → slice_get xs n ≡ Some x → slice_get (xs ++ ys) n ≡ Some x
get_front [] ys n x e = absurd cc
get_front (y ∷ xs) ys zero x e = e
get_front (y ∷ xs) ys (suc n) x e = get_front xs ys n x e

get_drop : {X : Type 0} (n k : ℕ) (xs : List X) → slice_get (drop n xs) k ≡ slice_get xs (n + k)
get_drop zero k xs = let e : 0 + k ≡ k = omega arith in ap (slice_get xs) (sym e)
get_drop (suc n) k [] = refl
get_drop (suc n) k (x ∷ xs) = let e : suc n + k ≡ suc (n + k) = omega arith in rw e (get_drop n k xs)

pub page_here : (es : List KeyEntry) (level : Level) (h : IsLevel es level) → AreKeys es → (file k : ℕ) → k < length level.starts.items →
    slice_get (index_pages file es) (level.base + k) ≡ Some (page_of file (level.base + k) level.number (get_or (level_blocks es level.nodes.items level.number) k []))
page_here es level h keys file k lt =
    let l = levels_here es level h keys in
    let b = level_blocks es level.nodes.items level.number in
    let all : drop level.base (index_pages file es) ≡ level_pages file level.number level.base b ++ pages_of_levels file (suc level.number) (level.base + length b) l.0 =
    h.pages file ∙ ap (pages_of_levels file level.number level.base) l.1 in
    sym (get_drop level.base k (index_pages file es)) ∙ (ap (λ (xs : List (List ℕ)). slice_get xs k) all
    ∙ get_front (level_pages file level.number level.base b) _ k _ (level_page file level.number level.base k b (omega (arith, lt, starts_count es level h keys))))

-- ---- the items of one page

start_at : (s : ℕ) (bs : List (List Item)) (k d : ℕ) → k < length bs → get_or (starts_of s bs) k d ≡ s + length (joined (take k bs))
start_at s [] k d lt = absurd (omega arith)
start_at s (b ∷ bs) zero d lt = omega arith
start_at s (b ∷ bs) (suc k) d lt = omega (arith, start_at (s + length b) bs k d (omega arith), length-append b (joined (take k bs)))

start_past : (s : ℕ) (bs : List (List Item)) (k d : ℕ) → length bs ≤ k → get_or (starts_of s bs) k d ≡ d
start_past s [] k d le = refl
start_past s (b ∷ bs) zero d le = absurd (omega arith)
start_past s (b ∷ bs) (suc k) d le = start_past (s + length b) bs k d (omega arith)

end_at : (bs : List (List Item)) (k : ℕ) → k < length bs → get_or (starts_of 0 bs) (k + 1) (length (joined bs)) ≡ length (joined (take k bs)) + length (get_or bs k [])
end_at bs k lt = by (cases_lt (k + 1) (length bs)) where
  next : (cs : List (List Item)) (i : ℕ) → i < length cs → length (joined (take (i + 1) cs)) ≡ length (joined (take i cs)) + length (get_or cs i [])
  next [] i l = absurd (omega arith)
  next (c ∷ cs) zero l = omega (arith, length-append c [])
  next (c ∷ cs) (suc i) l = let e : suc i + 1 ≡ suc (i + 1) = omega arith in rw e (omega (arith, length-append c (joined (take (i + 1) cs)), length-append c (joined (take i cs)), next cs i (omega arith)))

  whole : (cs : List (List Item)) (i : ℕ) → length cs ≤ i → take i cs ≡ cs
  whole [] zero l = refl
  whole [] (suc i) l = refl
  whole (c ∷ cs) zero l = absurd (omega arith)
  whole (c ∷ cs) (suc i) l = ap (λ (xs : List (List Item)). c ∷ xs) (whole cs i (omega arith))

  by : (k + 1 < length bs) ⊎ (length bs ≤ k + 1) → get_or (starts_of 0 bs) (k + 1) (length (joined bs)) ≡ length (joined (take k bs)) + length (get_or bs k [])
  by (inl more) = omega (arith, start_at 0 bs (k + 1) (length (joined bs)) more, next bs k lt)
  by (inr all) = omega (arith, start_past 0 bs (k + 1) (length (joined bs)) all, next bs k lt, ap (λ (xs : List (List Item)). length (joined xs)) (whole bs (k + 1) all))

part_is : (bs : List (List Item)) (k : ℕ) → k < length bs → drop (length (joined (take k bs))) (joined bs) ≡ get_or bs k [] ++ joined (drop (k + 1) bs)
part_is [] k lt = absurd (omega arith)
part_is (b ∷ bs) zero lt = refl
part_is (b ∷ bs) (suc k) lt =
    let e : suc k + 1 ≡ suc (k + 1) = omega arith in
    rw e (over b (joined bs) (length (joined (take k bs))) (length (b ++ joined (take k bs))) (length-append b (joined (take k bs))) ∙ part_is bs k (omega arith)) where
      over : (xs ys : List Item) (n m : ℕ) → m ≡ length xs + n → drop m (xs ++ ys) ≡ drop n ys
      over [] ys n m e = let q : m ≡ n = omega (arith, e) in ap (λ (j : ℕ). drop j ys) q
      over (x ∷ xs) ys n zero e = absurd (omega (arith, e))
      over (x ∷ xs) ys n (suc m) e = over xs ys n m (omega (arith, e))

drop_items : (es : List KeyEntry) (n : ℕ) (nodes : List Node) → node_items es (drop n nodes) ≡ drop n (node_items es nodes)
drop_items es zero nodes = refl
drop_items es (suc n) [] = refl
drop_items es (suc n) (x ∷ nodes) = drop_items es n nodes

take_items : (es : List KeyEntry) (n : ℕ) (nodes : List Node) → node_items es (take n nodes) ≡ take n (node_items es nodes)
take_items es zero nodes = refl
take_items es (suc n) [] = refl
take_items es (suc n) (x ∷ nodes) = ap (λ (ys : List Item). node_item es x ∷ ys) (take_items es n nodes)

nodes_drop : {X : Type 0} (P : X → Type 0) (n : ℕ) (xs : List X) → All P xs → All P (drop n xs)
nodes_drop P zero xs h = h
nodes_drop P (suc n) [] h = λ k d lt. absurd (omega arith)
nodes_drop P (suc n) (x ∷ xs) h = nodes_drop P n xs (λ k d lt. h (suc k) d (omega arith))

nodes_take : {X : Type 0} (P : X → Type 0) (n : ℕ) (xs : List X) → All P xs → All P (take n xs)
nodes_take P zero xs h k d lt = absurd (omega arith)
nodes_take P (suc n) [] h k d lt = absurd (omega arith)
nodes_take P (suc n) (x ∷ xs) h zero d lt = h 0 d (omega arith)
nodes_take P (suc n) (x ∷ xs) h (suc k) d lt = nodes_take P n xs (λ j y l. h (suc j) y (omega arith)) k d (omega arith)

heavy : (level : ℕ) (items : List Item) → length items ≤ weight_of (weight level) items
heavy level [] = omega arith
heavy level (e ∷ es) = omega (arith, heavy level es, some level e) where
  some : (l : ℕ) (x : Item) → 1 ≤ weight l x
  some zero x = omega (arith, tail x) where
    tail : (y : Item) → 6 ≤ weight zero y
    tail y = omega (arith, length-append (value_bytes y.key) (tail_bytes zero y))
  some (suc l) x = omega (arith, tail x) where
    tail : (y : Item) → 6 ≤ weight (suc l) y
    tail y = omega (arith, length-append (value_bytes y.key) (tail_bytes (suc l) y))

block_fits : (level k : ℕ) (bs : List (List Item)) → AllByRecursion (λ c. (0 < length c) × (weight_of (weight level) c ≤ 8172)) bs → k < length bs → weight_of (weight level) (get_or bs k []) ≤ 8172
block_fits level k [] h lt = absurd (omega arith)
block_fits level zero (c ∷ bs) h lt = h.0.1
block_fits level (suc k) (c ∷ bs) h lt = block_fits level k bs h.1 (omega arith)

module _ (es : List KeyEntry) (level : Level) (h : IsLevel es level) (keys : AreKeys es) (place from upto : ℕ) (d : ℕ) (lt : place < length level.starts.items) (from_is : from ≡ get_or level.starts.items place d) (upto_is : upto ≡ get_or level.starts.items (place + 1) (length level.nodes.items)) where
  abbrev bs : List (List Item)
  bs = level_blocks es level.nodes.items level.number

  inside : place < length (level_blocks es level.nodes.items level.number)
  inside = omega (arith, lt, starts_count es level h keys)

  same : joined (level_blocks es level.nodes.items level.number) ≡ node_items es level.nodes.items
  same = (blocks_are es level h keys).same

  count : length (joined (level_blocks es level.nodes.items level.number)) ≡ length level.nodes.items
  count = ap length same ∙ length-map level.nodes.items (node_item es)

  from_at : from ≡ length (joined (take place (level_blocks es level.nodes.items level.number)))
  from_at = from_is ∙ (ap (λ (ss : List ℕ). get_or ss place d) h.starts ∙ (start_at 0 (level_blocks es level.nodes.items level.number) place d inside ∙ omega arith))

  upto_at : upto ≡ length (joined (take place (level_blocks es level.nodes.items level.number))) + length (get_or (level_blocks es level.nodes.items level.number) place [])
  upto_at = upto_is ∙ (ap (λ (ss : List ℕ). get_or ss (place + 1) (length level.nodes.items)) h.starts
      ∙ (ap (λ (n : ℕ). get_or (starts_of 0 (level_blocks es level.nodes.items level.number)) (place + 1) n) (sym count) ∙ end_at (level_blocks es level.nodes.items level.number) place inside))

  pub in_order : from ≤ upto
  in_order = omega (arith, from_at, upto_at)

  rest_long : length (joined (take place (level_blocks es level.nodes.items level.number))) + length (get_or (level_blocks es level.nodes.items level.number) place []) ≤ length (joined (level_blocks es level.nodes.items level.number))
  rest_long = go (level_blocks es level.nodes.items level.number) place inside where
    go : (cs : List (List Item)) (i : ℕ) → i < length cs → length (joined (take i cs)) + length (get_or cs i []) ≤ length (joined cs)
    go [] i l = absurd (omega arith)
    go (c ∷ cs) zero l = omega (arith, length-append c (joined cs))
    go (c ∷ cs) (suc i) l = omega (arith, length-append c (joined cs), length-append c (joined (take i cs)), go cs i (omega arith))

  pub within : upto ≤ length level.nodes.items
  within = omega (arith, upto_at, rest_long, count)

  pub items_are : node_items es (slice_range level.nodes.items from upto) ≡ get_or (level_blocks es level.nodes.items level.number) place []
  items_are =
      let n : upto - from ≡ length (get_or (level_blocks es level.nodes.items level.number) place []) = omega (arith, from_at, upto_at) in
      let cut = drop_items es from level.nodes.items ∙ (ap₂ (λ (k : ℕ) (xs : List Item). drop k xs) from_at (sym same) ∙ part_is (level_blocks es level.nodes.items level.number) place inside) in
      take_items es (upto - from) (drop from level.nodes.items) ∙ (ap₂ (λ (k : ℕ) (xs : List Item). take k xs) n cut
      ∙ take_at (get_or (level_blocks es level.nodes.items level.number) place []) (joined (drop (place + 1) (level_blocks es level.nodes.items level.number))) (length (get_or (level_blocks es level.nodes.items level.number) place [])) refl)

  pub part_nodes : All (IsNode es) (slice_range level.nodes.items from upto)
  part_nodes = nodes_take (IsNode es) (upto - from) (drop from level.nodes.items) (nodes_drop (IsNode es) from level.nodes.items h.nodes)

  pub part_fits : length (flat_map (item_bytes level.number) (node_items es (slice_range level.nodes.items from upto))) ≤ 8172
  part_fits = omega (arith, weight_is level.number (node_items es (slice_range level.nodes.items from upto)), ap (weight_of (weight level.number)) items_are, block_fits level.number place (level_blocks es level.nodes.items level.number) (blocks_are es level h keys).fit inside)

  pub part_few : length (slice_range level.nodes.items from upto) < 65536
  part_few =
      let len = length-map (slice_range level.nodes.items from upto) (node_item es) in
      omega (arith, len, heavy level.number (node_items es (slice_range level.nodes.items from upto)), ap (weight_of (weight level.number)) items_are, block_fits level.number place (level_blocks es level.nodes.items level.number) (blocks_are es level h keys).fit inside)

module _ {D : Type 0} (g : Ghosts D) where
  -- the levels below this one are written
  pub record Stage (map : FileMap) (file : ℕ) (entries : List KeyEntry) (level : Level) (olds news : List D) : Type 0 where
    pub is_level : IsLevel entries level
    pub wrote : AreWritten g (IsPlace map file) olds news
    pub quiet : AreQuiet g None olds news
    pub stands : FirstStand g map file (index_pages file entries) level.base news
    pub room : HaveRoom g map news
    pub len : length news ≡ map.drives

  module _ (map : FileMap) (file : ℕ) (entries : List KeyEntry) (olds : List D) where
    pub first_stage : (level : Level) → IsLevel entries level → level.base ≡ 0 → HaveRoom g map olds → length olds ≡ map.drives → Stage map file entries level olds olds
    first_stage level h z room len = record {
      is_level = h;
      wrote = wrote_none g (IsPlace map file) olds;
      quiet = quiet_none g None olds;
      stands = rw z (none_stand g map file (index_pages file entries) olds);
      room = room;
      len = len;
    }

    pub both_wrote : (bs cs : List D) → AreWritten g (IsPlace map file) olds bs → AreWritten g (IsPlace map file) bs cs → AreWritten g (IsPlace map file) olds cs
    both_wrote bs cs one two = wrote_trans g (IsPlace map file) (IsPlace map file) (IsPlace map file) olds bs cs (λ d x k. k) (λ d x k. k) one two

    pub next_stage : (level next : Level) (bs cs : List D) → Stage map file entries level olds bs → AreWritten g (IsPlace map file) bs cs → FirstStand g map file (index_pages file entries) (level.base + length level.starts.items) cs → AreQuiet g None bs cs → IsLevel entries next → next.base ≡ level.base + length level.starts.items →
        Stage map file entries next olds cs
    next_stage level next bs cs s w stands quiet h b = record {
      is_level = h;
      wrote = both_wrote bs cs s.wrote w;
      quiet = quiet_trans g None olds bs cs s.wrote.len s.quiet quiet;
      stands = rw b stands;
      room = room_kept g map (IsPlace map file) bs cs w s.room;
      len = w.len ∙ s.len;
    }

    pub last_stage : (level : Level) (before cs : List D) → AreKeys entries → Stage map file entries level olds before → length level.starts.items ≤ 1 → FirstStand g map file (index_pages file entries) (level.base + length level.starts.items) cs → AllStand g map file (index_pages file entries) cs
    last_stage level before cs keys s le stands =
        all_stand g map file (level.base + length level.starts.items) (index_pages file entries) cs
        (omega (arith, root_pages entries level s.is_level keys le file, starts_count entries level s.is_level keys, some_blocks entries level s.is_level keys, le)) stands

-- an index without entries has no page
pub no_page : (file : ℕ) (es : List KeyEntry) (page : ℕ) (bytes : List ℕ) → length es ≡ 0 → slice_get (index_pages file es) page ≡ Some bytes → ⊥
unfolding levels_from
no_page file [] page bytes z e = absurd cc
no_page file (x ∷ es) page bytes z e = absurd (omega (arith, z))
