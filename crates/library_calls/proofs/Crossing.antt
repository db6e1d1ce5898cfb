-- What a database over files holds may go to another thread: each of its parts, found by what it has
-- in turn. A search meets a struct or an enum in a field as `the_field`, so the lemmas speak of that.
use denote.RattleType.{RattleType}
use denote.Exit.{Exit, unchanged, leaves, hidden, under}
use denote.Struct.Owning as owning
use denote.Struct.Struct.{exits_of}
use denote.Param.Send.{AllSend, IsSend, Quiet, owning_send, sendable, struct_send}
use Rattle.std.proofs.Crossing as heap
use Rattle.std.proofs.MapsCrossing as maps
use Rattle.attributes.specs.contracts.batch.Batch as events
use Rattle.attributes.specs.contracts.list.List as lists
use Rattle.attributes.specs.contracts.text.Text as text
use Rattle.durable_site.specs.contracts.durable.DurableSite as durable
use Rattle.durable_site.specs.contracts.owed.Owed as owed
use Rattle.file_disk.specs.contracts.system.OpenFile as open_file
use Rattle.file_disk.specs.contracts.system.record.Record as calls
use Rattle.file_disk.specs.contracts.system_file.SystemFile as system_file
use Rattle.inbox_table.specs.contracts.table.Table as inbox
use Rattle.number_table.specs.contracts.numberer.Numberer as numberer
use Rattle.numbers.specs.contracts.counted.Counted as counted
use Rattle.outbox.specs.contracts.service.Service as service
use Rattle.site.specs.contracts.site.Site as site
use Rattle.library_calls.specs.contracts.held.HeldSite as held_site
use Rattle.library_calls.specs.contracts.offers.Head as head
use Rattle.library_calls.specs.contracts.offers.Offers as offers
use Rattle.sqlite.specs.contracts.cache.Entry as entry
use Rattle.sqlite.specs.contracts.connection.Connection as connection
use Rattle.sqlite.specs.contracts.history.History as history
use Rattle.sqlite.specs.contracts.history.Mark as savepoint
use Rattle.sqlite.specs.contracts.run.reading.Reading as reading
use Rattle.sqlite_btree.specs.contracts.batch.Batch as cells
use Rattle.sqlite_btree.specs.contracts.scratch.Scratch as scratch
use Rattle.sqlite_disk.specs.contracts.modelled.Modelled as modelled
use Rattle.sqlite_disk.specs.contracts.start.Unknown as unknown
use Rattle.sqlite_disk.specs.declared.calls.Calls as calls_of_file
use Rattle.sqlite_disk.specs.declared.start.Start as start
use Rattle.sqlite_disk.specs.declared.Disk as disk
use Rattle.sqlite_exec.specs.contracts.mark.Mark as place
use Rattle.sqlite_exec.specs.contracts.mark.Way as way
use Rattle.sqlite_exec.specs.contracts.page.Page as page
use Rattle.sqlite_exec.specs.contracts.rows.Rows as rows
use Rattle.sqlite_exec.specs.contracts.stream.Stream as stream
use Rattle.sqlite_exec.specs.contracts.work.Workspace as workspace
use Rattle.sqlite_items.specs.contracts.items.Items as items
use Rattle.sqlite_pager.specs.contracts.cache.Cache as cache
use Rattle.sqlite_pager.specs.contracts.layers.Layer as layer
use Rattle.sqlite_pager.specs.contracts.pager.Pager as pager
use Rattle.sqlite_pool.specs.contracts.backing.Backing as backing
use Rattle.sqlite_pool.specs.contracts.free_set.FreeSet as free_set
use Rattle.sqlite_pool.specs.contracts.pool.Pool as pool
use Rattle.sqlite_resolve.specs.contracts.compiled.Compiled as compiled
use Rattle.sqlite_schema.specs.contracts.code.Op as op
use Rattle.sqlite_schema.specs.contracts.code.Terms as terms
use Rattle.sqlite_schema.specs.contracts.command.Command as command
use Rattle.sqlite_schema.specs.contracts.command.Returning as returning
use Rattle.sqlite_schema.specs.contracts.command.Source as source
use Rattle.sqlite_schema.specs.contracts.command.Upsert as upsert
use Rattle.sqlite_schema.specs.contracts.plan.Groups as groups
use Rattle.sqlite_schema.specs.contracts.plan.Plan as plan
use Rattle.sqlite_schema.specs.contracts.plan.Scan as scan
use Rattle.sqlite_schema.specs.contracts.plan.Stage as stage
use Rattle.sqlite_schema.specs.contracts.program.Program as program
use Rattle.sqlite_schema.specs.contracts.program.Table as computed
use Rattle.sqlite_schema.specs.contracts.schema.Column as column
use Rattle.sqlite_schema.specs.contracts.schema.Index as index
use Rattle.sqlite_schema.specs.contracts.schema.Reference as reference
use Rattle.sqlite_schema.specs.contracts.schema.Schema as schema
use Rattle.sqlite_schema.specs.contracts.schema.Stamps as stamps
use Rattle.sqlite_schema.specs.contracts.schema.Table as table
use Rattle.sqlite_schema.specs.contracts.schema.View as view
use Rattle.sqlite_store.specs.contracts.catalog.Wanted as wanted
use Rattle.sqlite_store.specs.contracts.cursor.Cursor as cursor
use Rattle.sqlite_store.specs.contracts.saved.Listed as listed
use Rattle.sqlite_store.specs.contracts.saved.Saved as saved
use Rattle.sqlite_store.specs.contracts.store.FileStore as file_store
use Rattle.sqlite_trees.specs.declared.store.Store as store
use Rattle.sqlite_value.specs.contracts.row.Row as row
use Rattle.sqlite_value.specs.contracts.value.Bytes as bytes
use Rattle.sqlite_value.specs.contracts.value.Value as value
use Rattle.sqlite_wal.specs.contracts.batch.Batch as batch
use Rattle.sqlite_wal.specs.contracts.index.PageIndex as page_index
use Rattle.sqlite_wal.specs.contracts.log.Log as log

both : {A B : Type 0} → A → B → A × B
both a b = (a, b)

-- a list of what may go
items_send : (T : RattleType) → IsSend T → IsSend (items.the_field T).row
items_send T s = search (heap.Vec-send, both, sendable) depth 20

ruleset plain = (items_send, heap.Vec-send, both, sendable)

-- ---- statements, compiled
bytes_send : IsSend (bytes.the_field).row
bytes_send = search plain depth 20

value_send : IsSend (value.the_field).row
value_send = search (bytes_send, plain) depth 30

row_send : IsSend (row.the_field).row
row_send = search plain depth 30

op_send : IsSend (op.the_field).row
op_send = search (value_send, plain) depth 40

terms_send : IsSend (terms.the_field).row
terms_send = search (op_send, plain) depth 30

column_send : IsSend (column.the_field).row
column_send = search (bytes_send, value_send, plain) depth 30

reference_send : IsSend (reference.the_field).row
reference_send = search (bytes_send, plain) depth 30

stamps_send : IsSend (stamps.the_field).row
stamps_send = search (bytes_send, terms_send, plain) depth 30

table_send : IsSend (table.the_field).row
table_send = search (bytes_send, terms_send, stamps_send, column_send, reference_send, plain) depth 60 fits 20000

index_send : IsSend (index.the_field).row
index_send = search (bytes_send, plain) depth 30

view_send : IsSend (view.the_field).row
view_send = search (bytes_send, plain) depth 30

schema_send : IsSend (schema.the_field).row
schema_send = search (table_send, index_send, view_send, plain) depth 30

scan_send : IsSend (scan.the_field).row
scan_send = search plain depth 30

stage_send : IsSend (stage.the_field).row
stage_send = search (scan_send, plain) depth 60 fits 20000

groups_send : IsSend (groups.the_field).row
groups_send = search plain depth 40

plan_send : IsSend (plan.the_field).row
plan_send = search (op_send, stage_send, groups_send, plain) depth 60 fits 20000

computed_send : IsSend (computed.the_field).row
computed_send = search (plan_send, plain) depth 60 fits 20000

program_send : IsSend (program.the_field).row
program_send = search (computed_send, plan_send, plain) depth 30

source_send : IsSend (source.the_field).row
source_send = search (terms_send, program_send, plain) depth 60 fits 20000

upsert_send : IsSend (upsert.the_field).row
upsert_send = search (program_send, plain) depth 40

returning_send : IsSend (returning.the_field).row
returning_send = search (bytes_send, source_send, plain) depth 40 fits 20000

command_send : IsSend (command.the_field).row
command_send = search (bytes_send, value_send, source_send, program_send, upsert_send, plain) depth 80 fits 20000

compiled_send : IsSend (compiled.the_field).row
compiled_send = search (bytes_send, command_send, returning_send, plain) depth 60 fits 20000

entry_send : IsSend (entry.the_field).row
entry_send = search (bytes_send, compiled_send, plain) depth 40

-- ---- what a connection runs them with
savepoint_send : IsSend (savepoint.the_field).row
savepoint_send = search (bytes_send, schema_send, plain) depth 30

history_send : IsSend (history.the_field).row
history_send = search (savepoint_send, schema_send, plain) depth 30

rows_send : IsSend (rows.the_field).row
rows_send = search (row_send, plain) depth 30

page_send : IsSend (page.the_field).row
page_send = search (rows_send, plain) depth 30

way_send : IsSend (way.the_field).row
way_send = search (row_send, plain) depth 60 fits 20000

place_send : IsSend (place.the_field).row
place_send = search (row_send, way_send, plain) depth 30

stream_send : IsSend (stream.the_field).row
stream_send = search (row_send, rows_send, page_send, place_send, plain) depth 60 fits 20000

reading_send : IsSend (reading.the_field).row
reading_send = search (row_send, stream_send, plain) depth 60 fits 20000

workspace_send : IsSend (workspace.the_field).row
workspace_send = search (row_send, plain) depth 60 fits 20000

-- ---- the pages of a file, and the store over them
page_index_send : IsSend (page_index.the_field).row
page_index_send = search plain depth 30

batch_send : IsSend (batch.the_field).row
batch_send = search (page_index_send, plain) depth 30

layer_send : IsSend (layer.the_field).row
layer_send = search (batch_send, plain) depth 30

cache_send : IsSend (cache.the_field).row
cache_send = search plain depth 30

free_set_send : IsSend (free_set.the_field).row
free_set_send = search plain depth 30

wanted_send : IsSend (wanted.the_field).row
wanted_send = search (row_send, plain) depth 60 fits 20000

listed_send : IsSend (listed.the_field).row
listed_send = search (wanted_send, plain) depth 30

saved_send : IsSend (saved.the_field).row
saved_send = search (wanted_send, listed_send, plain) depth 30

cells_send : IsSend (cells.the_field).row
cells_send = search plain depth 40

cursor_send : IsSend (cursor.the_field).row
cursor_send = search (cells_send, plain) depth 60 fits 20000

scratch_send : IsSend (scratch.the_field).row
scratch_send = search plain depth 30

module _ (D : RattleType) (g : disk.Ghosts D.Denot) (s : IsSend D) where
  log_send : IsSend (log.the_field D g).row
  log_send = search (page_index_send, plain) depth 60 fits 20000

  pager_send : IsSend (pager.the_field D g).row
  pager_send = search (log_send, batch_send, layer_send, cache_send, plain) depth 60 fits 20000

  backing_send : IsSend (backing.the_field D g).row
  backing_send = search (pager_send, plain) depth 40

  pool_send : IsSend (pool.the_field D g).row
  pool_send = search (backing_send, free_set_send, plain) depth 60 fits 20000

  file_store_send : IsSend (file_store.the_field D g).row
  file_store_send = search (pool_send, wanted_send, saved_send, cursor_send, scratch_send, plain) depth 60 fits 20000

-- ---- a site, and the events that are owed to it
pub text_send : IsSend (text.the_field).row
text_send = search (heap.crosses, sendable) depth 30

events_send : IsSend (events.the_field).row
events_send = search (heap.crosses, sendable) depth 60 fits 20000

owed_send : IsSend (owed.the_field).row
owed_send = search (events_send, heap.crosses, both, sendable) depth 60 fits 20000

list_send : (T : RattleType) → IsSend T → IsSend (lists.the_field T).row
list_send T s = search (heap.Vec-send, both, sendable) depth 20

head_send : IsSend (head.the_field).row
head_send = search plain depth 20

pub offers_send : IsSend (offers.the_field).row
offers_send = search (list_send, head_send, events_send, both, sendable) depth 60 fits 20000

counted_send : IsSend (counted.the_field).row
counted_send = search (maps.crosses, heap.crosses, sendable) depth 60 fits 20000

-- without the text of its last answer
pub site_send : IsSend site.the_row
site_send = search (maps.crosses, heap.crosses, sendable) depth 80 fits 20000

module _ (S : RattleType) (g : store.Ghosts S.Denot) (s : IsSend S) where
  connection_send : IsSend (connection.the_field S g).row
  connection_send = search (schema_send, history_send, entry_send, row_send, reading_send, workspace_send, plain) depth 60 fits 20000

  inbox_send : IsSend (inbox.the_field S g).row
  inbox_send = search (connection_send, plain) depth 40

  durable_send : IsSend (durable.the_field S g).row
  durable_send = search (inbox_send, site_send, owed_send, plain) depth 40

  service_send : IsSend (service.the_field S g).row
  service_send = search (connection_send, text_send, plain) depth 40

  numberer_send : IsSend (numberer.the_field S g).row
  numberer_send = search (inbox_send, counted_send, both, plain) depth 40

-- ---- a file of the system
quiet : {D X : Type 0} (to : D → X) (e : Exit X) → Quiet e → Quiet (hidden (under to e))
quiet to unchanged q = λ x w. tt
quiet to (leaves L l S s r₀) q = λ d. q (to d)

-- what was asked of it, which clauses alone read
calls_send : IsSend (calls.the_field).row
calls_send = let O = calls.the_type in let all : AllSend (owning.fields O) = (search sendable, tt) in
    owning_send O all (λ d. tt) (λ k. quiet (owning.to O) (exits_of k (owning.fields O)) ((struct_send (owning.shape O) all).leaving k))

open_file_send : IsSend (open_file.the_field).row
open_file_send = search (calls_send, plain) depth 40

system_file_send : IsSend (system_file.the_field).row
system_file_send = search (open_file_send, plain) depth 30

module _ (C S : RattleType) (c : calls_of_file.Ghosts C.Denot) (g : start.Ghosts S.Denot) (s : IsSend C) where
  modelled_send : IsSend (modelled.the_field C S c g).row
  modelled_send = search plain depth 40

-- ---- what is over two such files, whatever clauses say of their contents
module _ (c : calls_of_file.Ghosts (system_file.the_row).Denot) (b : start.Ghosts (unknown.the_row).Denot) where
  abbrev file : RattleType
  file = modelled.the_row system_file.the_row unknown.the_row c b

  module _ (g : disk.Ghosts file.Denot) where
    abbrev files : RattleType
    files = file_store.the_row file g

    files_send : IsSend files
    files_send = search (file_store_send file g, modelled_send system_file.the_row unknown.the_row c b, system_file_send, sendable) depth 20

    module _ (h : store.Ghosts files.Denot) where
      pub file_site_send : IsSend (durable.the_row files h)
      file_site_send = search (durable_send files h, files_send, sendable) depth 20

      pub file_service_send : IsSend (service.the_row files h)
      file_service_send = search (service_send files h, files_send, sendable) depth 20

      pub file_numberer_send : IsSend (numberer.the_row files h)
      file_numberer_send = search (numberer_send files h, files_send, sendable) depth 20

      file_site_field_send : IsSend (durable.the_field files h).row
      file_site_field_send = search (durable_send files h, files_send, sendable) depth 20

-- ---- a site in a caller's room
pub held_site_send : IsSend (held_site.the_field).row
held_site_send = search (site_send, file_site_field_send, both, sendable) depth 60 fits 20000
