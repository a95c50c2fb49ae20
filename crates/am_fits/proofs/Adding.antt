-- What is kept of the operations of a change joins one by one.
use Rattle.std.proofs.Common.{ℕ, zero, suc, ◌≡◌, ◌∙◌, ◌+◌, ◌<◌, ◌++◌, ◌∷◌, [], List, length, get_or, take, map, Some, refl, ap, sym, subst, arith}
use Rattle.std.specs.List.{zip}
use Rattle.std.proofs.lemmas.List.{append_assoc, append-nil, length_push}
use Rattle.std.proofs.lemmas.List.Elements.{All-nil}
use Rattle.am_types.specs.declared.OpId.{OpId}
use Rattle.am_types.specs.declared.Op.{Op}
use Rattle.am_types.specs.declared.Change.{Change}
use Rattle.am_types.specs.Operations.{operations}
use Rattle.am_graph.specs.Reaches.{number}
use Rattle.am_fits.specs.declared.table.IdKey.{IdKey}
use Rattle.am_fits.specs.declared.table.Kept.{Kept}
use Rattle.am_fits.specs.Facts.{facts, fact_of}
use Rattle.am_fits.specs.Runs.{key_at, keys_from}
use Rattle.am_fits.specs.Tables.{KeepsEach}
use Rattle.am_fits.specs.Told.{own}
use Rattle.am_fits.specs.Words.{Words, WordsGrow, IsIdOf, IsFactOf, IsKept, AreKept, id_in, entry_in}
use Rattle.am_fits.proofs.Entering.{entered, entered_kept}
use Rattle.am_fits.proofs.Interned.{id_is}
use Rattle.am_fits.proofs.OwnOperations.{facts_more}
use Rattle.am_fits.proofs.Places.{zip-append}
use Rattle.am_fits.proofs.RunLaws.{length-keys}

keys_push : (a c n : ℕ) → keys_from a c (n + 1) ≡ keys_from a c n ++ key_at a (c + n) ∷ []
keys_push a c zero = let e : c ≡ c + 0 = omega arith in ap (λ k. key_at a k ∷ []) e
keys_push a c (suc n) =
    let again : keys_from a (c + 1) (n + 1) ≡ keys_from a (c + 1) n ++ key_at a (c + 1 + n) ∷ [] = keys_push a (c + 1) n in
    let up : suc n + 1 ≡ suc (n + 1) = omega arith in
    let e : c + 1 + n ≡ c + suc n = omega arith in
    ap (keys_from a c) up ∙ ap (λ ks. key_at a c ∷ ks) again ∙ ap (λ k. key_at a c ∷ (keys_from a (c + 1) n ++ key_at a k ∷ [])) e

-- none are kept yet
pub keeps_none : (w : Words) (author : ℕ) (c : Change) (old : List Kept) → KeepsEach w author c 0 old old
keeps_none w author c old = record { rest = []; is = sym (append-nil old); long = refl; kept = record { each = All-nil (IsKept w) }; facts = refl }

-- one more is kept: what x says of the operation op at the place i of c, whose actor has a number
module _ (v w : Words) (grow : WordsGrow v w) (author : ℕ) (c : Change) (named : number v.authors c.actor ≡ Some author) (i : ℕ) (op : Op) (l : i < length c.ops) (at : op ≡ get_or c.ops i op)
    (x : Kept) (fact : (n : OpId) → IsIdOf v (key_at author (c.start + i)) n → IsFactOf w x (fact_of (record { id = n; op = op }))) where
  abbrev key : IdKey
  key = key_at author (c.start + i)

  own_id : id_in v key ≡ (own c i op).id
  own_id = id_is v key (own c i op).id (named, refl)

  own_key : IsIdOf v key (id_in v key)
  own_key = subst (IsIdOf v key) (sym own_id) (named, refl)

  module _ (old now new : List Kept) (keeps : KeepsEach v author c i old now) (is : new ≡ now ++ x ∷ []) where
    abbrev es : List (IdKey × Kept)
    es = zip (keys_from author c.start i) keeps.rest

    one_more : zip (keys_from author c.start (i + 1)) (keeps.rest ++ x ∷ []) ≡ es ++ (key, x) ∷ []
    one_more =
        let long = length-keys author c.start i in
        let size = keeps.long in
        ap (λ ks. zip ks (keeps.rest ++ x ∷ [])) (keys_push author c.start i) ∙ zip-append (keys_from author c.start i) (key ∷ []) keeps.rest (x ∷ []) (omega arith)

    joins : map (entry_in w) (es ++ (key, x) ∷ []) ≡ facts (take (i + 1) (operations c))
    joins =
        entered v w grow es keeps.kept key own_key x (fact_of (record { id = id_in v key; op = op })) (fact (id_in v key) own_key)
        ∙ (λ j. keeps.facts j ++ (own_id j, fact_of (record { id = own_id j; op = op })) ∷ [])
        ∙ ap (λ (o : Op). facts (take i (operations c)) ++ ((own c i o).id, fact_of (own c i o)) ∷ []) at
        ∙ sym (facts_more c i op l)

    pub keeps_more : KeepsEach w author c (i + 1) old new
    keeps_more = record {
      rest = keeps.rest ++ x ∷ [];
      is = is ∙ ap (λ xs. xs ++ x ∷ []) keeps.is ∙ append_assoc old keeps.rest (x ∷ []);
      long = length_push keeps.rest x ∙ ap (λ n. n + 1) keeps.long;
      kept = subst (AreKept w) (sym one_more) (entered_kept v w grow es keeps.kept key own_key x (fact_of (record { id = id_in v key; op = op })) (fact (id_in v key) own_key));
      facts = ap (map (entry_in w)) one_more ∙ joins;
    }
