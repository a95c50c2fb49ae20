use Rattle.am_session.proofs.OneRun.{whole, front}
use Rattle.am_session.proofs.laws.one_run.Goals as goal

pub returns-clause-whole : goal.returns-clause-whole
returns-clause-whole c = whole (record {
  file = c.one_reading.ensures.file;
  bad = c.one_reading.ensures.bad;
  never_both = c.one_reading.ensures.never_both;
  one_file = c.one_reading-2.ensures.changes;
  one_fault = c.one_reading-2.ensures.first_bad;
  file_or_fault = c.one_reading-2.ensures.never_both;
  deliveries = c.listing_is_free.ensures;
  stored = c.stays_stored.ensures;
  waiting = c.waiting_sorts_alike.ensures;
  reads = c.listing_is_free-2.ensures;
  rules = c.valid_sets_keep_rules.ensures;
  sorts = c.sorting_is_free.ensures.1.once;
})

pub returns-clause-front : goal.returns-clause-front
returns-clause-front c = front (record {
  file = c.one_reading.ensures.file;
  bad = c.one_reading.ensures.bad;
  never_both = c.one_reading.ensures.never_both;
  one_file = c.one_reading-2.ensures.changes;
  one_fault = c.one_reading-2.ensures.first_bad;
  file_or_fault = c.one_reading-2.ensures.never_both;
  deliveries = c.listing_is_free.ensures;
  stored = c.stays_stored.ensures;
  waiting = c.waiting_sorts_alike.ensures;
  reads = c.listing_is_free-2.ensures;
  rules = c.valid_sets_keep_rules.ensures;
  sorts = c.sorting_is_free.ensures.1.once;
})
