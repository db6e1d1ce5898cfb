-- The texts of the statements.
use Rattle.std.specs.Prelude.{ℕ, List, codes}
use Rattle.inbox_table.specs.declared.version.Version.{Version}
use Rattle.inbox_table.specs.declared.version.Version.TheVariants.{One, Two}

-- INSERT: puts an event into the inbox's table at a place, unless it is there
abbrev pub insert_text : List ℕ
insert_text = codes "INSERT INTO inbox2 (place, source, id, number, body, block) VALUES (?1, ?2, ?3, ?4, ?5, ?6) ON CONFLICT DO NOTHING"

-- INSERT: puts an event into the inbox's table at a place, and is refused if it is there
abbrev pub insert_new_text : List ℕ
insert_new_text = codes "INSERT INTO inbox2 (place, source, id, number, body, block) VALUES (?1, ?2, ?3, ?4, ?5, ?6)"

-- INSERT: puts eight events into the inbox's table, and is refused if one is there
abbrev pub insert_group_text : List ℕ
insert_group_text = codes "INSERT INTO inbox2 (place, source, id, number, body, block) VALUES (?1, ?2, ?3, ?4, ?5, ?6), (?7, ?8, ?9, ?10, ?11, ?12), (?13, ?14, ?15, ?16, ?17, ?18), (?19, ?20, ?21, ?22, ?23, ?24), (?25, ?26, ?27, ?28, ?29, ?30), (?31, ?32, ?33, ?34, ?35, ?36), (?37, ?38, ?39, ?40, ?41, ?42), (?43, ?44, ?45, ?46, ?47, ?48)"

-- SELECT: shows the rows of the inbox's table by place
abbrev pub select_text : Version → List ℕ
select_text One = codes "SELECT place, source, id, number, body FROM inbox ORDER BY place"
select_text Two = codes "SELECT place, source, id, number, body, block FROM inbox2 ORDER BY place"

-- SELECT: shows the rows of the inbox's table with a source and an id, by place
abbrev pub named_text : List ℕ
named_text = codes "SELECT place, source, id, number, body, block FROM inbox2 WHERE source = ?1 AND id = ?2 ORDER BY place"

-- SELECT: shows the rows of the inbox's table at so many places behind one, by place
abbrev pub page_text : List ℕ
page_text = codes "SELECT place, source, id, number, body, block FROM inbox2 WHERE place > ?1 ORDER BY place LIMIT ?2"
