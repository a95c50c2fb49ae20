-- What the turns show: the letters as their bytes, and the slots behind them.
use Rattle.std.proofs.Common.{◌≡◌, ℕ, Bool, true, false, cond, List, [], ◌∷◌, ◌++◌, map, flat_map, Some, refl, sym, ap, ◌∙◌, append_assoc, arith}
use Rattle.serde_json.specs.Data.{Data, string, Items, item, items_depth}
use Rattle.serde_json.specs.View.{items_of}
use Rattle.am_types.specs.declared.ObjId.{ObjId}
use Rattle.am_types.specs.declared.Key.{Key}
use Rattle.am_types.specs.declared.Entry.{Entry}
use Rattle.am_types.specs.declared.RawValue.{RawValue}
use Rattle.am_types.specs.Letters.{IsLetter, AreLetters}
use Rattle.am_json.specs.declared.form.Form.{Form}
use Rattle.am_json.specs.declared.form.Form.TheVariants as forms
use Rattle.am_json.specs.Entries.{Slot}
use Rattle.am_json.specs.Shown.{piece, shown_by, slot_data, text_of, text_data}
use Rattle.am_json.specs.Steps.{member_at, named}
use Rattle.am_json.specs.Stretches.{Stretch, AreRuns, ArePlain}
use Rattle.am_json.specs.Turns.{Turn, turns, turn_with, with_stretch, goes_on_in, alone, all_slots, slots_of, turn_text, letter_items, turn_items}
use Rattle.am_json.proofs.GoodTexts.{letter_text}

-- ---- what the letters of stretches are, those of their turns are

module _ (P : List Entry → List ℕ → Type 0) where
  abbrev pub EachIn : List Stretch → Type 0
  EachIn [] = Unit {0}
  EachIn (s ∷ ss) = P s.letters s.bytes × EachIn ss

  abbrev pub Each : List Turn → Type 0
  Each [] = Unit {0}
  Each (t ∷ ts) = P t.letters t.bytes × Each ts

  each_joined : (s : Stretch) (ts : List Turn) → P s.letters s.bytes → Each ts → Each (with_stretch s ts)
  each_joined s [] p h = tt
  each_joined s (t ∷ ts) p h = (p, h.1)

  each_either : (b : Bool) (s : Stretch) (ts : List Turn) → P s.letters s.bytes → Each ts → Each (cond b (with_stretch s ts) (turn_with (s ∷ []) s.entry ∷ ts))
  each_either true s ts p h = each_joined s ts p h
  each_either false s ts p h = (p, h)

  pub each_turn : (ss : List Stretch) → EachIn ss → Each (turns ss)
  each_turn [] h = tt
  each_turn (s ∷ ss) h = each_either (goes_on_in s.entry ss) s (turns ss) h.0 (each_turn ss h.1)

abbrev pub Spelled : List Entry → List ℕ → Type 0
Spelled es bs = (o : ObjId) × AreLetters o es bs

pub spelled : (ss : List Stretch) → AreRuns ss → EachIn Spelled ss
spelled [] h = tt
spelled (s ∷ ss) h = ((s.entry.obj, h.0.letters), spelled ss h.1)

-- ---- a letter

letter_value : (o : ObjId) (e : Entry) (b : ℕ) → IsLetter o e b → text_of e.value ≡ Some (b ∷ [])
letter_value o e b h = letter_text e.value b (ap (λ (v : RawValue). v.kind) h.value) (ap (λ (v : RawValue). v.raw) h.value) h.ascii

letter_piece : (o : ObjId) (e : Entry) (b : ℕ) → IsLetter o e b → piece e ≡ b ∷ []
letter_piece o e b h = rw (h.action, letter_value o e b h) refl

letter_shown : (f : Entry → Data) (o : ObjId) (e : Entry) (b : ℕ) → IsLetter o e b → shown_by f e ≡ string (b ∷ [])
letter_shown f o e b h =
    let kind : e.value.kind ≡ 6 = ap (λ (v : RawValue). v.kind) h.value in
    let text : shown_by f e ≡ text_data (text_of e.value) = rw (h.action, kind) refl in
    text ∙ ap text_data (letter_value o e b h)

-- ---- a string

letters_spell : (o : ObjId) (es : List Entry) (bs : List ℕ) (rest : List Slot) → AreLetters o es bs → flat_map (λ s. piece s.winner) (map alone es ++ rest) ≡ bs ++ flat_map (λ s. piece s.winner) rest
letters_spell o [] [] rest h = refl
letters_spell o [] (b ∷ bs) rest h = absurd h
letters_spell o (e ∷ es) [] rest h = absurd h
letters_spell o (e ∷ es) (b ∷ bs) rest h =
    ap (λ xs. xs ++ flat_map (λ s. piece s.winner) (map alone es ++ rest)) (letter_piece o e b h.0) ∙ ap (λ xs. b ∷ xs) (letters_spell o es bs rest h.1)

pub all_text : (ts : List Turn) → Each Spelled ts → flat_map (λ s. piece s.winner) (all_slots ts) ≡ turn_text ts
all_text [] h = refl
all_text (t ∷ ts) h =
    letters_spell h.0.0 t.letters t.bytes (t.slot ∷ all_slots ts) h.0.1
    ∙ (ap (λ xs. t.bytes ++ (piece t.slot.winner ++ xs)) (all_text ts h.1) ∙ sym (append_assoc t.bytes (piece t.slot.winner) (turn_text ts)))

-- ---- an array

-- each letter shows as a string
abbrev ShowsEach : (Slot → Data) → List Entry → List ℕ → Type 0
ShowsEach f [] [] = Unit {0}
ShowsEach f [] (b ∷ bs) = ⊥
ShowsEach f (e ∷ es) [] = ⊥
ShowsEach f (e ∷ es) (b ∷ bs) = (f (alone e) ≡ string (b ∷ [])) × ShowsEach f es bs

letters_listed : (f : Slot → Data) (es : List Entry) (bs : List ℕ) (rest : List Slot) → ShowsEach f es bs → items_of (map f (map alone es ++ rest)) ≡ letter_items bs (items_of (map f rest))
letters_listed f [] [] rest h = refl
letters_listed f [] (b ∷ bs) rest h = absurd h
letters_listed f (e ∷ es) [] rest h = absurd h
letters_listed f (e ∷ es) (b ∷ bs) rest h =
    let p = h.0 in let q = letters_listed f es bs rest h.1 in
    λ i. item (p i) (q i)

all_listed : (f : Slot → Data) (ts : List Turn) → Each (ShowsEach f) ts → items_of (map f (all_slots ts)) ≡ turn_items f ts
all_listed f [] h = refl
all_listed f (t ∷ ts) h =
    letters_listed f t.letters t.bytes (t.slot ∷ all_slots ts) h.0 ∙ ap (λ ds. letter_items t.bytes (item (f t.slot) ds)) (all_listed f ts h.1)

each_shows : (g : Entry → Data) (o : ObjId) (es : List Entry) (bs : List ℕ) → AreLetters o es bs → ShowsEach (slot_data forms.Winners (shown_by g)) es bs
each_shows g o [] [] h = tt
each_shows g o [] (b ∷ bs) h = h
each_shows g o (e ∷ es) [] h = h
each_shows g o (e ∷ es) (b ∷ bs) h = (letter_shown g o e b h.0, each_shows g o es bs h.1)

none_shows : (f : Slot → Data) (o : ObjId) (es : List Entry) (bs : List ℕ) → AreLetters o es bs → es ≡ [] → ShowsEach f es bs
none_shows f o [] [] h none = tt
none_shows f o [] (b ∷ bs) h none = h
none_shows f o (e ∷ es) bs h none = cc

lettered : (g : Entry → Data) (ss : List Stretch) → AreRuns ss → EachIn (ShowsEach (slot_data forms.Winners (shown_by g))) ss
lettered g [] h = tt
lettered g (s ∷ ss) h = (each_shows g s.entry.obj s.letters s.bytes h.0.letters, lettered g ss h.1)

unlettered : (f : Slot → Data) (ss : List Stretch) → AreRuns ss → ArePlain ss → EachIn (ShowsEach f) ss
unlettered f [] h plain = tt
unlettered f (s ∷ ss) h plain = (none_shows f s.entry.obj s.letters s.bytes h.0.letters plain.0, unlettered f ss h.1 plain.1)

each_listed : (form : Form) (g : Entry → Data) (ss : List Stretch) → AreRuns ss → (form ≡ forms.All → ArePlain ss) → EachIn (ShowsEach (slot_data form (shown_by g))) ss
each_listed forms.Winners g ss h plain = lettered g ss h
each_listed forms.All g ss h plain = unlettered (slot_data forms.All (shown_by g)) ss h (plain refl)

pub turns_listed : (form : Form) (g : Entry → Data) (ss : List Stretch) → AreRuns ss → (form ≡ forms.All → ArePlain ss) → items_of (map (slot_data form (shown_by g)) (all_slots (turns ss))) ≡ turn_items (slot_data form (shown_by g)) (turns ss)
turns_listed form g ss h plain =
    all_listed (slot_data form (shown_by g)) (turns ss) (each_turn (ShowsEach (slot_data form (shown_by g))) ss (each_listed form g ss h plain))

-- ---- an object

letters_unnamed : (g : Slot → Data) (o : ObjId) (es : List Entry) (bs : List ℕ) (rest : List Slot) → AreLetters o es bs → named g (map alone es ++ rest) ≡ named g rest
letters_unnamed g o [] bs rest h = refl
letters_unnamed g o (e ∷ es) [] rest h = absurd h
letters_unnamed g o (e ∷ es) (b ∷ bs) rest h =
    ap (λ (k : Key). member_at k (g (alone e)) (named g (map alone es ++ rest))) h.0.inserted ∙ letters_unnamed g o es bs rest h.1

pub all_named : (g : Slot → Data) (ts : List Turn) → Each Spelled ts → named g (all_slots ts) ≡ named g (slots_of ts)
all_named g [] h = refl
all_named g (t ∷ ts) h =
    letters_unnamed g h.0.0 t.letters t.bytes (t.slot ∷ all_slots ts) h.0.1 ∙ ap (member_at t.slot.winner.slot (g t.slot)) (all_named g ts h.1)

-- ---- depths

pub letters_shallow : (bs : List ℕ) (ds : Items) → items_depth (letter_items bs ds) ≡ items_depth ds
letters_shallow [] ds = refl
letters_shallow (b ∷ bs) ds = let rest = letters_shallow bs ds in omega (arith, rest)
