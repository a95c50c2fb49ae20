use Rattle.std.proofs.Common.{◌≡◌, List, map, Result, Ok, Err, refl, sym, ap, ◌∙◌}
use Rattle.std.specs.Result.{IfOk}
use Rattle.am_types.specs.declared.Hash.{Hash}
use Rattle.am_types.specs.declared.Change.{Change}
use Rattle.am_types.specs.Members.{changes}
use Rattle.am_graph.specs.declared.Node.{Node}
use Rattle.am_merge.specs.Grown.{Respells}
use Rattle.am_delivery.specs.Waiting.{members_of}
use Rattle.am_store.specs.Adopting.{IsBuilt}
use Rattle.am_store.specs.declared.file_changes.Built.{Built}
use Rattle.am_store.proofs.store.contents_for.Goals as goal

respells : (es : List (Hash × Change)) (b : Built) → IsBuilt es b → (cs : List Change) (g : List (Hash × Node)) → g ≡ b.graph → cs ≡ changes (members_of es) → Respells b.doc cs g (members_of es)
respells es b built cs g eg e = record {
  graph = eg ∙ built.of_set.graph;
  all = sym e;
  valid = built.valid;
  same_rows = built.rows_are;
}

given : {A E : Type 0} (r : Result A E) (P Q : A → Type 0) → ((x : A) → P x → Q x) → IfOk r P → IfOk r Q
given (Ok x) P Q f p = f x p
given (Err e) P Q f p = tt

pub respelled-requires : goal.respelled-requires
respelled-requires c =
    let es = c.args.entries.now in
    let listed = ap (map (λ c. c.now)) c.as_slice.ensures.value ∙ c.in_ok-lent.ensures in
    record { set = members_of es; respells = respells es c.args.built.now c.requires _ _ refl listed }

pub returns : goal.returns
returns c =
    let es = c.args.entries.now in
    let listed = ap (map (λ c. c.now)) c.as_slice.ensures.value ∙ c.in_ok-lent.ensures in
    given c.respelled.result _ _ (λ contents h. h (members_of es) (respells es c.args.built.now c.requires _ _ refl listed)) c.respelled.ensures
