-- Definitions to believe: the sizes of document 01, as document 02 has changed them, each once, in its order.
use Rattle.std.specs.Prelude.{ℕ, ◌+◌, ◌*◌}

-- "The frame": "payload of 0 or over 1,023 bytes" is LENGTH; writing a payload wants that room
abbrev pub longest_payload : ℕ
longest_payload = 1023

-- "Longest frame: 4 + 8 + 1,023 + 64 + 4 = 1,103 bytes." The tray, and the room of the frame's writer
abbrev pub longest_frame : ℕ
longest_frame = 4 + 8 + longest_payload + 64 + 4

-- "Payloads": "Reading wants 8,184 entries", one for each bit of the longest payload
abbrev pub sheet_room : ℕ
sheet_room = 8 * longest_payload

-- "The stream": "Noise is told just before a frame, at 65,535, or at finish"
abbrev pub most_noise : ℕ
most_noise = 65535

-- "Book and run": "An HPAC tag is taken modulo 43,200."
abbrev pub tags : ℕ
tags = 43200

-- "The book holds one AIOU and up to 32 areas, ascending by ID, six bytes each: .. 192 bytes."
abbrev pub most_areas : ℕ
most_areas = 32

abbrev pub area_bytes : ℕ
area_bytes = 6

abbrev pub book_bytes : ℕ
book_bytes = area_bytes * most_areas

-- "Log and kept book", and document 02, request 5: form number, AIOU + 1 and count, a byte each, two
-- for SIOU + 1, and seven for the 47 bits of an area: "(229 bytes of room)"
abbrev pub kept_room : ℕ
kept_room = 5 + 7 * most_areas

-- "Log room: 4,096 bytes per frame, always enough."
abbrev pub log_room : ℕ
log_room = 4096
