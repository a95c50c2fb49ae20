-- Names that ascend: an object shows them one after another.
use Rattle.std.proofs.Common.{◌≡◌, ℕ, Bool, true, false, not, cond, List, [], ◌∷◌, fold, Ordering, Less, Equal, Greater, refl, sym, ap, ◌∙◌, true≢false, ◌&&◌, ◌||◌}
use Rattle.std.specs.List.{list_all}
use Rattle.std.specs.Ordering.{nat_cmp, is_le, ordering_reverse}
use Rattle.std.specs.Cmp.Lexicographic.{slice_cmp}
use Rattle.std.proofs.lemmas.Cmp.{nat_list_cmp_total, nat_list_eq_equiv}
use Rattle.std.proofs.lemmas.Map.Lookups.{exact_bytes}
use Rattle.serde_json.specs.Data.{Data, put, Members, member, no_members}
use Rattle.am_types.specs.declared.Key.{Key}
use Rattle.am_types.specs.declared.Key.TheVariants.{Name, Head, Elem}
use Rattle.am_types.specs.declared.Entry.{Entry}
use Rattle.am_types.specs.EntryOrder.{names_rise}
use Rattle.am_types.specs.Order.{bytes_cmp}
use Rattle.am_types.specs.Same.{same_key, same_bytes}
use Rattle.am_json.specs.Entries.{Slot}
use Rattle.am_json.specs.Shown.{put_at, with_slot}
use Rattle.am_json.specs.Steps.{goes_on, runs, with_first, member_at, named}
use Rattle.am_json.proofs.SlotRuns.{is_far, rises, comes_before, is_by_slots, and_first, and_second, and_both}

-- a later key: as a name it is above
abbrev pub is_above : Key → Key → Bool
is_above k l = names_rise k l && not (same_key l k)

-- the names of one object rise
abbrev pub rising : List Entry → Bool
rising [] = true
rising (e ∷ es) = list_all (λ f. names_rise e.slot f.slot) es && rising es

-- each slot's name is above those before it
abbrev pub climbs : List Slot → Bool
climbs [] = true
climbs (s ∷ ss) = list_all (λ t. is_above s.winner.slot t.winner.slot) ss && climbs ss

-- ---- slots climb

all_and : {X : Type 0} (p q : X → Bool) (xs : List X) → list_all p xs ≡ true → list_all q xs ≡ true → list_all (λ x. p x && q x) xs ≡ true
all_and p q [] h k = refl
all_and p q (x ∷ xs) h k =
    and_both (p x && q x) _ (and_both (p x) (q x) (and_first (p x) _ h) (and_first (q x) _ k))
    (all_and p q xs (and_second (p x) _ h) (and_second (q x) _ k))

first_all : (p : Entry → Bool) (e : Entry) (ss : List Slot) → list_all (λ s. p s.winner) ss ≡ true → list_all (λ s. p s.winner) (with_first e ss) ≡ true
first_all p e [] h = refl
first_all p e (s ∷ ss) h = h

either_all : (p : Entry → Bool) (b : Bool) (e : Entry) (ss : List Slot) → p e ≡ true → list_all (λ s. p s.winner) ss ≡ true
    → list_all (λ s. p s.winner) (cond b (with_first e ss) (record { winner = e; entries = e ∷ [] } ∷ ss)) ≡ true
either_all p true e ss own h = first_all p e ss h
either_all p false e ss own h = and_both (p e) _ own h

-- what all entries pass, the winners pass
winners_all : (p : Entry → Bool) (es : List Entry) → list_all p es ≡ true → list_all (λ s. p s.winner) (runs es) ≡ true
winners_all p [] h = refl
winners_all p (e ∷ es) h = either_all p (goes_on e es) e (runs es) (and_first (p e) _ h) (winners_all p es (and_second (p e) _ h))

first_climbs : (e : Entry) (ss : List Slot) → climbs ss ≡ true → climbs (with_first e ss) ≡ true
first_climbs e [] h = refl
first_climbs e (s ∷ ss) h = h

far_all : (b c : Bool) → b ≡ false → (b || c) ≡ true → c ≡ true
far_all true c f h = absurd (true≢false f)
far_all false c f h = h

either_climbs : (b : Bool) (e : Entry) (es : List Entry) → b ≡ goes_on e es → comes_before e es ≡ true → list_all (λ f. names_rise e.slot f.slot) es ≡ true → climbs (runs es) ≡ true
    → climbs (cond b (with_first e (runs es)) (record { winner = e; entries = e ∷ [] } ∷ runs es)) ≡ true
either_climbs true e es on before rise h = first_climbs e (runs es) h
either_climbs false e es on before rise h =
    let far = far_all (goes_on e es) (list_all (is_far e) es) (sym on) (and_second (list_all (rises e) es) _ before) in
    and_both _ (climbs (runs es)) (winners_all (λ w. is_above e.slot w.slot) es (all_and (λ f. names_rise e.slot f.slot) (is_far e) es rise far)) h

pub runs_climb : (es : List Entry) → is_by_slots es ≡ true → rising es ≡ true → climbs (runs es) ≡ true
runs_climb [] h k = refl
runs_climb (e ∷ es) h k =
    either_climbs (goes_on e es) e es refl (and_first (comes_before e es) _ h) (and_first (list_all (λ f. names_rise e.slot f.slot) es) _ k)
    (runs_climb es (and_second (comes_before e es) _ h) (and_second (list_all (λ f. names_rise e.slot f.slot) es) _ k))

-- ---- names one after another

abbrev joined : Members → Members → Members
joined no_members ns = ns
joined (member k d ms) ns = member k d (joined ms ns)

joined-none : (ms : Members) → joined ms no_members ≡ ms
joined-none no_members = refl
joined-none (member k d ms) = ap (member k d) (joined-none ms)

-- the name is above those of the members
abbrev AboveAll : List ℕ → Members → Type 0
AboveAll n no_members = Unit {0}
AboveAll n (member l d ms) = (slice_cmp nat_cmp n l ≡ Greater) × AboveAll n ms

abbrev KeyAbove : Key → Members → Type 0
KeyAbove (Name n) ms = AboveAll n ms
KeyAbove Head ms = Unit {0}
KeyAbove (Elem i) ms = Unit {0}

abbrev SlotsAbove : List Slot → Members → Type 0
SlotsAbove [] ms = Unit {0}
SlotsAbove (s ∷ ss) ms = KeyAbove s.winner.slot ms × SlotsAbove ss ms

greater : (a b : List ℕ) (r : Ordering) → r ≡ bytes_cmp a b → is_le r ≡ true → not (same_bytes b a) ≡ true → slice_cmp nat_cmp b a ≡ Greater
greater a b Less e le far = nat_list_cmp_total.antisymm b a ∙ ap ordering_reverse (sym e)
greater a b Equal e le far =
    let same : a ≡ b = exact_bytes a b (sym e) in
    let one : same_bytes b a ≡ true = ap (same_bytes b) same ∙ nat_list_eq_equiv.refl b in
    absurd (true≢false (sym far ∙ ap not one))
greater a b Greater e le far = absurd (true≢false (sym le))

put_joined : (n : List ℕ) (d : Data) (ms ns : Members) → AboveAll n ms → joined (put n d ms) ns ≡ joined ms (member n d ns)
put_joined n d no_members ns h = refl
put_joined n d (member l e ms) ns h = rw h.0 (ap (member l e) (put_joined n d ms ns h.1))

put_at_joined : (k : Key) (d : Data) (ms ns : Members) → KeyAbove k ms → joined (put_at k d ms) ns ≡ joined ms (member_at k d ns)
put_at_joined (Name n) d ms ns h = put_joined n d ms ns h
put_at_joined Head d ms ns h = refl
put_at_joined (Elem i) d ms ns h = refl

put_above : (m n : List ℕ) (d : Data) (ms : Members) → slice_cmp nat_cmp m n ≡ Greater → AboveAll n ms → AboveAll m ms → AboveAll m (put n d ms)
put_above m n d no_members up h k = (up, tt)
put_above m n d (member l e ms) up h k = rw h.0 (k.0, put_above m n d ms up h.1 k.1)

put_at_above : (k l : Key) (d : Data) (ms : Members) → is_above k l ≡ true → KeyAbove k ms → KeyAbove l ms → KeyAbove l (put_at k d ms)
put_at_above (Name n) (Name m) d ms up h k =
    put_above m n d ms (greater n m _ refl (and_first (is_le (bytes_cmp n m)) _ up) (and_second (is_le (bytes_cmp n m)) _ up)) h k
put_at_above (Name n) Head d ms up h k = tt
put_at_above (Name n) (Elem i) d ms up h k = tt
put_at_above Head l d ms up h k = k
put_at_above (Elem i) l d ms up h k = k

slots_above : (k : Key) (d : Data) (ms : Members) (ss : List Slot) → list_all (λ t. is_above k t.winner.slot) ss ≡ true → KeyAbove k ms → SlotsAbove ss ms → SlotsAbove ss (put_at k d ms)
slots_above k d ms [] up h s = tt
slots_above k d ms (t ∷ ss) up h s =
    (put_at_above k t.winner.slot d ms (and_first (is_above k t.winner.slot) _ up) h s.0, slots_above k d ms ss (and_second (is_above k t.winner.slot) _ up) h s.1)

folded : (g : Slot → Data) (ms : Members) (ss : List Slot) → climbs ss ≡ true → SlotsAbove ss ms → fold (with_slot g) ms ss ≡ joined ms (named g ss)
folded g ms [] c s = sym (joined-none ms)
folded g ms (t ∷ ss) c s =
    let up = and_first (list_all (λ u. is_above t.winner.slot u.winner.slot) ss) _ c in
    folded g (put_at t.winner.slot (g t) ms) ss (and_second (list_all (λ u. is_above t.winner.slot u.winner.slot) ss) _ c) (slots_above t.winner.slot (g t) ms ss up s.0 s.1)
    ∙ put_at_joined t.winner.slot (g t) ms (named g ss) s.0

none_above : (ss : List Slot) → SlotsAbove ss no_members
none_above [] = tt
none_above (t ∷ ss) = (key t.winner.slot, none_above ss)
  where
    key : (k : Key) → KeyAbove k no_members
    key (Name n) = tt
    key Head = tt
    key (Elem i) = tt

pub names_in_turn : (g : Slot → Data) (ss : List Slot) → climbs ss ≡ true → fold (with_slot g) no_members ss ≡ named g ss
names_in_turn g ss c = folded g no_members ss c (none_above ss)
