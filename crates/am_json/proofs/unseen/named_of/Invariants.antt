use Rattle.am_json.proofs.unseen.named_of.Given as goal

abbrev pub ghost-named : goal.ghost-named
ghost-named g a = g.es
