-- Notes of three people: a title, a list with a map, a text, deletions and marks. The text has 20 letters, `abcdefghij`
-- twice, so that the checker computes it in seconds.
--     n1     the first writes the notes
--     n2     the second gives another title, adds 3 to a count, and deletes the first ten letters
--     n3     the third, at the same time, gives another title, and marks a part of the text
use Rattle.std.proofs.Common.{ℕ, zero, suc, ◌+◌, ◌≡◌, ◌&&◌, List, [], ◌∷◌, ◌++◌, Bool, true, ℤ, pos, Some, refl, map, filter, length}
use Rattle.std.specs.Prelude.{codes}
use Rattle.std.specs.List.{flat_map}
use Rattle.am_types.specs.Actions as actions
use Rattle.am_laws.specs.Records.{Hash, ObjId, Root, Made, Key, Name, Head, Elem, Op, Entry}
use Rattle.am_types.specs.Same.{same_object, same_key}
use Rattle.am_types.specs.Numbers.{signed_of}
use Rattle.am_types.specs.Operations.{all_operations}
use Rattle.am_types.specs.Members.{Member, changes}
use Rattle.am_types.specs.Ancestors.{ancestors}
use Rattle.am_types.specs.Elements.{elements}
use Rattle.am_types.specs.Replay.{replay}
use Rattle.am_types.specs.Verdicts.{verdict}
use Rattle.am_types.specs.Deliver.{deliver, settle}
use Rattle.am_laws.proofs.SampleHashes.{h_n1, h_n2, h_n3}
use Rattle.am_laws.proofs.Samples.{id, op, insertion, value, nothing, change, letter}

abbrev sixteen : ℕ → List ℕ
sixteen b = b ∷ b ∷ b ∷ b ∷ b ∷ b ∷ b ∷ b ∷ b ∷ b ∷ b ∷ b ∷ b ∷ b ∷ b ∷ b ∷ []

abbrev a : List ℕ
a = sixteen 0x11

abbrev b : List ℕ
b = sixteen 0x22

abbrev c : List ℕ
c = sixteen 0x33

abbrev the_items : ObjId
the_items = Made (id 2 a)

abbrev the_item : ObjId
the_item = Made (id 3 a)

abbrev the_body : ObjId
the_body = Made (id 7 a)

abbrev key : List ℕ → Key
key name = Name name

-- letters, each after the one before, of which the first goes after the element k
abbrev letters_after : ℕ → List ℕ → List Op
letters_after k [] = []
letters_after k (l ∷ ls) = insertion the_body (Elem (id k a)) actions.set (letter l) ∷ letters_after (k + 1) ls

-- deletions of n letters, the first of which is the element k
abbrev deletions : ℕ → ℕ → List Op
deletions k zero = []
deletions k (suc n) = op the_body (Elem (id k a)) actions.del nothing (id k a ∷ []) ∷ deletions (k + 1) n

abbrev n1 : Member
n1 = record {
  hash = h_n1;
  change = record (change [] a 1 1 (
      op Root (key (codes "title")) actions.set (value 6 (codes "Notes")) []
      ∷ op Root (key (codes "items")) actions.make_list nothing []
      ∷ insertion the_items Head actions.make_map nothing
      ∷ op the_item (key (codes "name")) actions.set (value 6 (codes "milk")) []
      ∷ op the_item (key (codes "count")) actions.set (value 8 (2 ∷ [])) []
      ∷ op the_item (key (codes "at")) actions.set (value 9 (0x80 ∷ 0xd0 ∷ 0x95 ∷ 0xff ∷ 0xbc ∷ 0x31 ∷ [])) []
      ∷ op Root (key (codes "body")) actions.make_text nothing []
      ∷ insertion the_body Head actions.set (letter 0x61)
      ∷ letters_after 8 (codes "bcdefghijabcdefghij")
      ++ op Root (key (codes "ratio")) actions.set (value 5 (0 ∷ 0 ∷ 0 ∷ 0 ∷ 0 ∷ 0 ∷ 0xf8 ∷ 0x3f ∷ [])) []
      ∷ [])) { time = pos 1700000000000; message = codes "first" };
}

abbrev n2 : Member
n2 = record {
  hash = h_n2;
  change = change (h_n1 ∷ []) b 1 29 (
      op Root (key (codes "title")) actions.set (value 6 (codes "Shopping")) (id 1 a ∷ [])
      ∷ op the_item (key (codes "count")) actions.inc (value 4 (3 ∷ [])) (id 5 a ∷ [])
      ∷ deletions 8 10);
}

abbrev n3 : Member
n3 = record {
  hash = h_n3;
  change = change (h_n1 ∷ []) c 1 29 (
      op Root (key (codes "title")) actions.set (value 6 (codes "Notes!")) (id 1 a ∷ [])
      ∷ record (insertion the_body (Elem (id 17 a)) actions.mark (value 2 [])) { expand = true; mark = Some (codes "bold") }
      ∷ insertion the_body (Elem (id 27 a)) actions.mark nothing
      ∷ []);
}

abbrev all : List Member
all = n3 ∷ n1 ∷ n2 ∷ []

-- ---- they fit

all_fit : deliver [] [] (n1 ∷ n2 ∷ n3 ∷ []) ≡ record { closed = n1 ∷ n3 ∷ n2 ∷ []; waiting = []; rejected = [] }
unfolding deliver settle verdict ancestors
all_fit = refl

-- ---- what is seen

abbrev seen : List Hash → List Entry
seen hs = replay (all_operations (changes (ancestors all hs)))

abbrev stands_at : ObjId → Key → Entry → Bool
stands_at o k e = same_object e.obj o && same_key e.slot k

abbrev titles : List Hash → List (List ℕ)
titles hs = map (λ e. e.value.raw) (filter (stands_at Root (key (codes "title"))) (seen hs))

abbrev counts : List Hash → List ℤ
counts hs = map (λ e. e.total) (filter (stands_at the_item (key (codes "count"))) (seen hs))

abbrev body : List Hash → List ℕ
body hs = flat_map (λ e. e.value.raw) (filter (λ e. same_object e.obj the_body) (seen hs))

-- the title, the count and the body at some heads, and how many entries there are
record Shows (hs : List Hash) (titles_there : List (List ℕ)) (count : ℤ) (body_there : List ℕ) (entries : ℕ) : Type 0 where
  title : titles hs ≡ titles_there
  count_is : counts hs ≡ count ∷ []
  text : body hs ≡ body_there
  number : length (seen hs) ≡ entries

at_first : Shows (h_n1 ∷ []) (codes "Notes" ∷ []) (pos 2) (codes "abcdefghijabcdefghij") 28
unfolding replay elements ancestors signed_of Rattle.am_leb.specs.Reading.first_signed Rattle.am_leb.specs.Leb.leb Rattle.am_leb.specs.Leb.signed_digits
at_first = record { title = refl; count_is = refl; text = refl; number = refl }

at_second : Shows (h_n2 ∷ []) (codes "Shopping" ∷ []) (pos 5) (codes "abcdefghij") 18
unfolding replay elements ancestors signed_of Rattle.am_leb.specs.Reading.first_signed Rattle.am_leb.specs.Leb.leb Rattle.am_leb.specs.Leb.signed_digits
at_second = record { title = refl; count_is = refl; text = refl; number = refl }

at_third : Shows (h_n3 ∷ []) (codes "Notes!" ∷ []) (pos 2) (codes "abcdefghijabcdefghij") 28
unfolding replay elements ancestors signed_of Rattle.am_leb.specs.Reading.first_signed Rattle.am_leb.specs.Leb.leb Rattle.am_leb.specs.Leb.signed_digits
at_third = record { title = refl; count_is = refl; text = refl; number = refl }

-- the two titles are in conflict, and the greater id is the winner
at_both : Shows (h_n2 ∷ h_n3 ∷ []) (codes "Shopping" ∷ codes "Notes!" ∷ []) (pos 5) (codes "abcdefghij") 19
unfolding replay elements ancestors signed_of Rattle.am_leb.specs.Reading.first_signed Rattle.am_leb.specs.Leb.leb Rattle.am_leb.specs.Leb.signed_digits
at_both = record { title = refl; count_is = refl; text = refl; number = refl }

-- the marks stand after the letters that they name
elements_of_all : map (λ i. i.counter) (elements (all_operations (changes all)) the_body) ≡ 8 ∷ 9 ∷ 10 ∷ 11 ∷ 12 ∷ 13 ∷ 14 ∷ 15 ∷ 16 ∷ 17 ∷ 30 ∷ 18 ∷ 19 ∷ 20 ∷ 21 ∷ 22 ∷ 23 ∷ 24 ∷ 25 ∷ 26 ∷ 27 ∷ 31 ∷ []
unfolding elements
elements_of_all = refl
