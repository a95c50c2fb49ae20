-- One more change has joined those that are gathered.
use Rattle.std.proofs.Common.{ℕ, ◌≡◌, Bool, List, [], ◌∷◌, ◌++◌, map, filter, fold, cond, sym, ap, ◌∙◌, subst, inl, inr, append-nil}
use Rattle.std.specs.Prelude.{max as larger}
use Rattle.std.proofs.lemmas.Bool.{cases_Bool}
use Rattle.std.proofs.lemmas.List.{map-append}
use Rattle.std.proofs.lemmas.List.Elements.{filter-append}
use Rattle.std.proofs.lemmas.List.Sums.{fold-append}
use Rattle.am_types.specs.declared.Hash.{Hash}
use Rattle.am_types.specs.declared.Change.{Change}
use Rattle.am_types.specs.Same.{same_bytes}
use Rattle.am_types.specs.Operations.{max}
use Rattle.am_types.specs.Members.{Member}
use Rattle.am_types.specs.ValidSets.{Valid, Joins}
use Rattle.am_graph.specs.declared.Node.{Node}
use Rattle.am_fits.specs.Indexes.{Indexed, AreOf}
use Rattle.am_delivery.specs.Waiting.{member_of, members_of}
use Rattle.am_delivery.specs.Laws.{JoinedIsValid}
use Rattle.am_histories.specs.Rebuilt.{last_max}
use Rattle.am_rebuild.specs.Gathered.{Lasts, last_in, AreGathered}

-- how far an actor's changes go, with one more change
last_max-more : (C : List Member) (m : Member) (a : List ℕ) → last_max (C ++ m ∷ []) a ≡ cond (same_bytes m.change.actor a) (larger (last_max C a) (max m.change)) (last_max C a)
last_max-more C m a =
    let by : Member → Bool = λ n. same_bytes n.change.actor a in
    let far : Member → ℕ = λ n. max n.change in
    let split : filter by (C ++ m ∷ []) ≡ filter by C ++ filter by (m ∷ []) = filter-append by C (m ∷ []) in
    elim (cases_Bool (same_bytes m.change.actor a)) [
      | inl t ↦
          (let one : filter by (m ∷ []) ≡ m ∷ [] = ap (λ b. cond b (m ∷ []) []) t in
          ap (λ l. fold larger 0 (map far l)) (split ∙ ap (λ l. filter by C ++ l) one) ∙ ap (fold larger 0) (map-append far (filter by C) (m ∷ [])) ∙ fold-append larger 0 (map far (filter by C)) (far m ∷ [])
          ∙ sym (ap (λ b. cond b (larger (last_max C a) (max m.change)) (last_max C a)) t))
      | inr f ↦
          (let none : filter by (m ∷ []) ≡ [] = ap (λ b. cond b (m ∷ []) []) f in
          ap (λ l. fold larger 0 (map far l)) (split ∙ ap (λ l. filter by C ++ l) none ∙ append-nil (filter by C)) ∙ sym (ap (λ b. cond b (larger (last_max C a) (max m.change)) (last_max C a)) f))
    ]

pub gathered_more : JoinedIsValid → (es more : List (Hash × Change)) (x : Hash × Change) (g h : List (Hash × Node)) (ix iy : Indexed) (ls ms : Lasts) → AreGathered es g ix ls → Joins (members_of es) (member_of x)
    → more ≡ es ++ x ∷ [] → ((C : List Member) → AreOf C g ix → AreOf (C ++ member_of x ∷ []) h iy)
    → ((a : List ℕ) → last_in ms a ≡ cond (same_bytes x.1.actor a) (larger (last_in ls a) (max x.1)) (last_in ls a)) → AreGathered more h iy ms
gathered_more law es more x g h ix iy ls ms are joins e adds notes =
    let all : members_of more ≡ members_of es ++ member_of x ∷ [] = ap members_of e ∙ map-append member_of es (x ∷ []) in
    record {
      of_set = subst (λ C. AreOf C h iy) (sym all) (adds (members_of es) are.of_set);
      valid = subst Valid (sym all) (law (members_of es) (member_of x) are.valid joins);
      last_maxes = λ a.
          notes a ∙ ap (λ n. cond (same_bytes x.1.actor a) (larger n (max x.1)) n) (are.last_maxes a) ∙ sym (last_max-more (members_of es) (member_of x) a) ∙ ap (λ C. last_max C a) (sym all);
    }
