-- What is put on the stack when an element has come.
use Rattle.std.proofs.Common.{◌≡◌, List, [], ◌∷◌, ◌++◌, filter, reverse, Bool, true, false, not, ◌&&◌, ◌==◌, refl, sym, ap, ◌∙◌, inl, inr, Contains}
use Rattle.std.proofs.lemmas.Bool.{cases_Bool, and_parts, not-true}
use Rattle.std.proofs.lemmas.List.{append-nil, append_assoc, reverse-append, reverse-reverse}
use Rattle.std.proofs.lemmas.List.Elements.{filter-append}
use Rattle.am_types.specs.declared.OpId.{OpId}
use Rattle.am_types.specs.declared.ObjId.{ObjId}
use Rattle.am_types.specs.declared.Key.TheVariants.{Elem}
use Rattle.am_types.specs.Actions as actions
use Rattle.am_types.specs.Same.{same_object, same_key}
use Rattle.am_types.specs.Operations.{Operation, ascending}
use Rattle.am_types.specs.Elements.{insertions, inserts_into}
use Rattle.am_laws.proofs.Ancestry.{Contains-from_filter}
use Rattle.am_types.proofs.SameLaws.{same_object-true, same_key-true}
use Rattle.am_merge.specs.Turns.{children, named_by, pushed}
use Rattle.am_merge.specs.Walk.{behind_of, gives_value, hangs_on, hung, inserts}
use Rattle.am_merge.proofs.Lists.{filter-filter, filter_within}

reverse_cons : {X : Type 0} (x : X) (xs : List X) → reverse (x ∷ xs) ≡ reverse xs ++ x ∷ []
reverse_cons x xs = reverse-append (x ∷ []) xs

pub filter-reverse : {X : Type 0} (p : X → Bool) (xs : List X) → filter p (reverse xs) ≡ reverse (filter p xs)
filter-reverse p [] = refl
filter-reverse p (x ∷ xs) =
    ap (filter p) (reverse_cons x xs) ∙ filter-append p (reverse xs) (x ∷ []) ∙ ap (λ l. l ++ filter p (x ∷ [])) (filter-reverse p xs)
    ∙ elim (cases_Bool (p x)) [
      | inl t ↦ simp t (sym (reverse_cons x (filter p xs)))
      | inr f ↦ simp f (append-nil (reverse (filter p xs)))
    ]

pub pushed_is : (xs ws : List Operation) → pushed xs ws ≡ reverse xs ++ ws
pushed_is [] ws = refl
pushed_is (x ∷ xs) ws = pushed_is xs (x ∷ ws) ∙ sym (append_assoc (reverse xs) (x ∷ []) ws) ∙ ap (λ l. l ++ ws) (sym (reverse_cons x xs))

pub pushed-more : (cs ws st : List Operation) → pushed cs (ws ++ st) ≡ pushed cs ws ++ st
pushed-more cs ws st = pushed_is cs (ws ++ st) ∙ sym (append_assoc (reverse cs) ws st) ∙ ap (λ l. l ++ st) (sym (pushed_is cs ws))

and_assoc : (a b c : Bool) → (a && (b && c)) ≡ ((a && b) && c)
and_assoc true b c = refl
and_assoc false b c = refl

module _ (N : List Operation) (o : ObjId) where
  abbrev A : List Operation
  A = ascending N

  -- the children of e among the insertions
  abbrev pub kids : OpId → List Operation
  kids e = children (Elem e) (insertions N o)

  -- the new values of e
  abbrev pub vals : OpId → List Operation
  vals e = filter (hangs_on o e) (filter gives_value (ascending N))

  kids_are : (e : OpId) → filter (hangs_on o e) (filter inserts (ascending N)) ≡ kids e
  kids_are e =
      filter-filter (hangs_on o e) inserts A
      ∙ filter_within (λ x. inserts x && hangs_on o e x) (λ x. inserts_into o x && named_by (Elem e) x) A (λ x c. and_assoc x.op.insert (same_object x.op.obj o) (same_key x.op.key (Elem e)))
      ∙ sym (filter-filter (named_by (Elem e)) (inserts_into o) A)

  vals_are : (e : OpId) → filter (hangs_on o e) (filter gives_value (reverse (ascending N))) ≡ reverse (vals e)
  vals_are e = ap (filter (hangs_on o e)) (filter-reverse gives_value A) ∙ filter-reverse (hangs_on o e) (filter gives_value A)

  hung_is : (e : OpId) → hung (ascending N) o e ≡ kids e ++ reverse (vals e)
  hung_is e = filter-append (hangs_on o e) (filter inserts A) (filter gives_value (reverse A)) ∙ (λ i. kids_are e i ++ vals_are e i)

  -- the values come first, and then the children, the greatest first
  pub behind_element : (e : OpId) (ws : List Operation) → behind_of (ascending N) true o e ws ≡ vals e ++ pushed (kids e) ws
  behind_element e ws =
      ap (λ l. pushed l ws) (hung_is e)
      ∙ pushed_is (kids e ++ reverse (vals e)) ws
      ∙ ap (λ l. l ++ ws) (reverse-append (kids e) (reverse (vals e)) ∙ ap (λ l. l ++ reverse (kids e)) (reverse-reverse (vals e)))
      ∙ append_assoc (vals e) (reverse (kids e)) ws
      ∙ ap (λ l. vals e ++ l) (sym (pushed_is (kids e) ws))

  pub record IsValueOf (e : OpId) (x : Operation) : Type 0 where
    pub among : Contains (ascending N) x
    pub obj : x.op.obj ≡ o
    pub key : x.op.key ≡ Elem e
    pub plain : x.op.insert ≡ false
    pub has_row : not (x.op.action == actions.del) ≡ true

  pub is_value : (e : OpId) (x : Operation) → Contains (vals e) x → IsValueOf e x
  is_value e x c =
      let f = Contains-from_filter (hangs_on o e) (filter gives_value A) x c in
      let g = Contains-from_filter gives_value A x f.0 in
      let h = and_parts (same_object x.op.obj o) (same_key x.op.key (Elem e)) f.1 in
      let v = and_parts (not x.op.insert) (not (x.op.action == actions.del)) g.1 in
      record {
        among = g.0;
        obj = same_object-true x.op.obj o h.0;
        key = same_key-true x.op.key (Elem e) h.1;
        plain = not-true x.op.insert v.0;
        has_row = v.1;
      }
