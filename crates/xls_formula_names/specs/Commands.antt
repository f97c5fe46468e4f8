-- The commands of macro sheets by their index ([MS-XLS] Cetab). The names rest on [MS-XLS] Cetab alone: no file was seen that uses them.
use Rattle.std.specs.Prelude.{ℕ, List, [], ◌∷◌, if◌then◌else◌, Option, nat_le, codes}
use Rattle.xls_formula_names.specs.Tables.{name_in}

-- 0 to 106
unfoldable pub first_commands : List (ℕ × List ℕ)
first_commands =
    (0, codes "BEEP") ∷ (1, codes "OPEN") ∷ (2, codes "OPEN.LINKS") ∷ (3, codes "CLOSE.ALL") ∷ (4, codes "SAVE") ∷
    (5, codes "SAVE.AS") ∷ (6, codes "FILE.DELETE") ∷ (7, codes "PAGE.SETUP") ∷ (8, codes "PRINT") ∷ (9, codes "PRINTER.SETUP") ∷
    (10, codes "QUIT") ∷ (11, codes "NEW.WINDOW") ∷ (12, codes "ARRANGE.ALL") ∷ (13, codes "WINDOW.SIZE") ∷ (14, codes "WINDOW.MOVE") ∷
    (15, codes "FULL") ∷ (16, codes "CLOSE") ∷ (17, codes "RUN") ∷ (22, codes "SET.PRINT.AREA") ∷ (23, codes "SET.PRINT.TITLES") ∷
    (24, codes "SET.PAGE.BREAK") ∷ (25, codes "REMOVE.PAGE.BREAK") ∷ (26, codes "FONT") ∷ (27, codes "DISPLAY") ∷
    (28, codes "PROTECT.DOCUMENT") ∷ (29, codes "PRECISION") ∷ (30, codes "A1.R1C1") ∷ (31, codes "CALCULATE.NOW") ∷
    (32, codes "CALCULATION") ∷ (34, codes "DATA.FIND") ∷ (35, codes "EXTRACT") ∷ (36, codes "DATA.DELETE") ∷
    (37, codes "SET.DATABASE") ∷ (38, codes "SET.CRITERIA") ∷ (39, codes "SORT") ∷ (40, codes "DATA.SERIES") ∷ (41, codes "TABLE") ∷
    (42, codes "FORMAT.NUMBER") ∷ (43, codes "ALIGNMENT") ∷ (44, codes "STYLE") ∷ (45, codes "BORDER") ∷
    (46, codes "CELL.PROTECTION") ∷ (47, codes "COLUMN.WIDTH") ∷ (48, codes "UNDO") ∷ (49, codes "CUT") ∷ (50, codes "COPY") ∷
    (51, codes "PASTE") ∷ (52, codes "CLEAR") ∷ (53, codes "PASTE.SPECIAL") ∷ (54, codes "EDIT.DELETE") ∷ (55, codes "INSERT") ∷
    (56, codes "FILL.RIGHT") ∷ (57, codes "FILL.DOWN") ∷ (61, codes "DEFINE.NAME") ∷ (62, codes "CREATE.NAMES") ∷
    (63, codes "FORMULA.GOTO") ∷ (64, codes "FORMULA.FIND") ∷ (65, codes "SELECT.LAST.CELL") ∷ (66, codes "SHOW.ACTIVE.CELL") ∷
    (67, codes "GALLERY.AREA") ∷ (68, codes "GALLERY.BAR") ∷ (69, codes "GALLERY.COLUMN") ∷ (70, codes "GALLERY.LINE") ∷
    (71, codes "GALLERY.PIE") ∷ (72, codes "GALLERY.SCATTER") ∷ (73, codes "COMBINATION") ∷ (74, codes "PREFERRED") ∷
    (75, codes "ADD.OVERLAY") ∷ (76, codes "GRIDLINES") ∷ (77, codes "SET.PREFERRED") ∷ (78, codes "AXES") ∷ (79, codes "LEGEND") ∷
    (80, codes "ATTACH.TEXT") ∷ (81, codes "ADD.ARROW") ∷ (82, codes "SELECT.CHART") ∷ (83, codes "SELECT.PLOT.AREA") ∷
    (84, codes "PATTERNS") ∷ (85, codes "MAIN.CHART") ∷ (86, codes "OVERLAY") ∷ (87, codes "SCALE") ∷ (88, codes "FORMAT.LEGEND") ∷
    (89, codes "FORMAT.TEXT") ∷ (90, codes "EDIT.REPEAT") ∷ (91, codes "PARSE") ∷ (92, codes "JUSTIFY") ∷ (93, codes "HIDE") ∷
    (94, codes "UNHIDE") ∷ (95, codes "WORKSPACE") ∷ (96, codes "FORMULA") ∷ (97, codes "FORMULA.FILL") ∷ (98, codes "FORMULA.ARRAY") ∷
    (99, codes "DATA.FIND.NEXT") ∷ (100, codes "DATA.FIND.PREV") ∷ (101, codes "FORMULA.FIND.NEXT") ∷
    (102, codes "FORMULA.FIND.PREV") ∷ (103, codes "ACTIVATE") ∷ (104, codes "ACTIVATE.NEXT") ∷ (105, codes "ACTIVATE.PREV") ∷
    (106, codes "UNLOCKED.NEXT") ∷ []

-- 107 to 224
unfoldable pub second_commands : List (ℕ × List ℕ)
second_commands =
    (107, codes "UNLOCKED.PREV") ∷ (108, codes "COPY.PICTURE") ∷ (109, codes "SELECT") ∷ (110, codes "DELETE.NAME") ∷
    (111, codes "DELETE.FORMAT") ∷ (112, codes "VLINE") ∷ (113, codes "HLINE") ∷ (114, codes "VPAGE") ∷ (115, codes "HPAGE") ∷
    (116, codes "VSCROLL") ∷ (117, codes "HSCROLL") ∷ (118, codes "ALERT") ∷ (119, codes "NEW") ∷ (120, codes "CANCEL.COPY") ∷
    (121, codes "SHOW.CLIPBOARD") ∷ (122, codes "MESSAGE") ∷ (124, codes "PASTE.LINK") ∷ (125, codes "APP.ACTIVATE") ∷
    (126, codes "DELETE.ARROW") ∷ (127, codes "ROW.HEIGHT") ∷ (128, codes "FORMAT.MOVE") ∷ (129, codes "FORMAT.SIZE") ∷
    (130, codes "FORMULA.REPLACE") ∷ (131, codes "SEND.KEYS") ∷ (132, codes "SELECT.SPECIAL") ∷ (133, codes "APPLY.NAMES") ∷
    (134, codes "REPLACE.FONT") ∷ (135, codes "FREEZE.PANES") ∷ (136, codes "SHOW.INFO") ∷ (137, codes "SPLIT") ∷
    (138, codes "ON.WINDOW") ∷ (139, codes "ON.DATA") ∷ (140, codes "DISABLE.INPUT") ∷ (142, codes "OUTLINE") ∷
    (143, codes "LIST.NAMES") ∷ (144, codes "FILE.CLOSE") ∷ (145, codes "SAVE.WORKBOOK") ∷ (146, codes "DATA.FORM") ∷
    (147, codes "COPY.CHART") ∷ (148, codes "ON.TIME") ∷ (149, codes "WAIT") ∷ (150, codes "FORMAT.FONT") ∷ (151, codes "FILL.UP") ∷
    (152, codes "FILL.LEFT") ∷ (153, codes "DELETE.OVERLAY") ∷ (155, codes "SHORT.MENUS") ∷ (159, codes "SET.UPDATE.STATUS") ∷
    (161, codes "COLOR.PALETTE") ∷ (162, codes "DELETE.STYLE") ∷ (163, codes "WINDOW.RESTORE") ∷ (164, codes "WINDOW.MAXIMIZE") ∷
    (166, codes "CHANGE.LINK") ∷ (167, codes "CALCULATE.DOCUMENT") ∷ (168, codes "ON.KEY") ∷ (169, codes "APP.RESTORE") ∷
    (170, codes "APP.MOVE") ∷ (171, codes "APP.SIZE") ∷ (172, codes "APP.MINIMIZE") ∷ (173, codes "APP.MAXIMIZE") ∷
    (174, codes "BRING.TO.FRONT") ∷ (175, codes "SEND.TO.BACK") ∷ (185, codes "MAIN.CHART.TYPE") ∷ (186, codes "OVERLAY.CHART.TYPE") ∷
    (187, codes "SELECT.END") ∷ (188, codes "OPEN.MAIL") ∷ (189, codes "SEND.MAIL") ∷ (190, codes "STANDARD.FONT") ∷
    (191, codes "CONSOLIDATE") ∷ (192, codes "SORT.SPECIAL") ∷ (193, codes "GALLERY.3D.AREA") ∷ (194, codes "GALLERY.3D.COLUMN") ∷
    (195, codes "GALLERY.3D.LINE") ∷ (196, codes "GALLERY.3D.PIE") ∷ (197, codes "VIEW.3D") ∷ (198, codes "GOAL.SEEK") ∷
    (199, codes "WORKGROUP") ∷ (200, codes "FILL.GROUP") ∷ (201, codes "UPDATE.LINK") ∷ (202, codes "PROMOTE") ∷
    (203, codes "DEMOTE") ∷ (204, codes "SHOW.DETAIL") ∷ (206, codes "UNGROUP") ∷ (207, codes "OBJECT.PROPERTIES") ∷
    (208, codes "SAVE.NEW.OBJECT") ∷ (209, codes "SHARE") ∷ (210, codes "SHARE.NAME") ∷ (211, codes "DUPLICATE") ∷
    (212, codes "APPLY.STYLE") ∷ (213, codes "ASSIGN.TO.OBJECT") ∷ (214, codes "OBJECT.PROTECTION") ∷ (215, codes "HIDE.OBJECT") ∷
    (216, codes "SET.EXTRACT") ∷ (217, codes "CREATE.PUBLISHER") ∷ (218, codes "SUBSCRIBE.TO") ∷ (219, codes "ATTRIBUTES") ∷
    (220, codes "SHOW.TOOLBAR") ∷ (222, codes "PRINT.PREVIEW") ∷ (223, codes "EDIT.COLOR") ∷ (224, codes "SHOW.LEVELS") ∷ []

-- 225 to 394
unfoldable pub third_commands : List (ℕ × List ℕ)
third_commands =
    (225, codes "FORMAT.MAIN") ∷ (226, codes "FORMAT.OVERLAY") ∷ (227, codes "ON.RECALC") ∷ (228, codes "EDIT.SERIES") ∷
    (229, codes "DEFINE.STYLE") ∷ (240, codes "LINE.PRINT") ∷ (243, codes "ENTER.DATA") ∷ (249, codes "GALLERY.RADAR") ∷
    (250, codes "MERGE.STYLES") ∷ (251, codes "EDITION.OPTIONS") ∷ (252, codes "PASTE.PICTURE") ∷ (253, codes "PASTE.PICTURE.LINK") ∷
    (254, codes "SPELLING") ∷ (256, codes "ZOOM") ∷ (259, codes "INSERT.OBJECT") ∷ (260, codes "WINDOW.MINIMIZE") ∷
    (265, codes "SOUND.NOTE") ∷ (266, codes "SOUND.PLAY") ∷ (267, codes "FORMAT.SHAPE") ∷ (268, codes "EXTEND.POLYGON") ∷
    (269, codes "FORMAT.AUTO") ∷ (272, codes "GALLERY.3D.BAR") ∷ (273, codes "GALLERY.3D.SURFACE") ∷ (274, codes "FILL.AUTO") ∷
    (276, codes "CUSTOMIZE.TOOLBAR") ∷ (277, codes "ADD.TOOL") ∷ (278, codes "EDIT.OBJECT") ∷ (279, codes "ON.DOUBLECLICK") ∷
    (280, codes "ON.ENTRY") ∷ (281, codes "WORKBOOK.ADD") ∷ (282, codes "WORKBOOK.MOVE") ∷ (283, codes "WORKBOOK.COPY") ∷
    (284, codes "WORKBOOK.OPTIONS") ∷ (285, codes "SAVE.WORKSPACE") ∷ (288, codes "CHART.WIZARD") ∷ (289, codes "DELETE.TOOL") ∷
    (290, codes "MOVE.TOOL") ∷ (291, codes "WORKBOOK.SELECT") ∷ (292, codes "WORKBOOK.ACTIVATE") ∷ (293, codes "ASSIGN.TO.TOOL") ∷
    (295, codes "COPY.TOOL") ∷ (296, codes "RESET.TOOL") ∷ (297, codes "CONSTRAIN.NUMERIC") ∷ (298, codes "PASTE.TOOL") ∷
    (302, codes "WORKBOOK.NEW") ∷ (305, codes "SCENARIO.CELLS") ∷ (306, codes "SCENARIO.DELETE") ∷ (307, codes "SCENARIO.ADD") ∷
    (308, codes "SCENARIO.EDIT") ∷ (309, codes "SCENARIO.SHOW") ∷ (310, codes "SCENARIO.SHOW.NEXT") ∷ (311, codes "SCENARIO.SUMMARY") ∷
    (312, codes "PIVOT.TABLE.WIZARD") ∷ (313, codes "PIVOT.FIELD.PROPERTIES") ∷ (314, codes "PIVOT.FIELD") ∷
    (315, codes "PIVOT.ITEM") ∷ (316, codes "PIVOT.ADD.FIELDS") ∷ (318, codes "OPTIONS.CALCULATION") ∷ (319, codes "OPTIONS.EDIT") ∷
    (320, codes "OPTIONS.VIEW") ∷ (321, codes "ADDIN.MANAGER") ∷ (322, codes "MENU.EDITOR") ∷ (323, codes "ATTACH.TOOLBARS") ∷
    (324, codes "VBAActivate") ∷ (325, codes "OPTIONS.CHART") ∷ (328, codes "VBA.INSERT.FILE") ∷
    (330, codes "VBA.PROCEDURE.DEFINITION") ∷ (336, codes "ROUTING.SLIP") ∷ (338, codes "ROUTE.DOCUMENT") ∷ (339, codes "MAIL.LOGON") ∷
    (342, codes "INSERT.PICTURE") ∷ (343, codes "EDIT.TOOL") ∷ (344, codes "GALLERY.DOUGHNUT") ∷ (350, codes "CHART.TREND") ∷
    (352, codes "PIVOT.ITEM.PROPERTIES") ∷ (354, codes "WORKBOOK.INSERT") ∷ (355, codes "OPTIONS.TRANSITION") ∷
    (356, codes "OPTIONS.GENERAL") ∷ (370, codes "FILTER.ADVANCED") ∷ (373, codes "MAIL.ADD.MAILER") ∷
    (374, codes "MAIL.DELETE.MAILER") ∷ (375, codes "MAIL.REPLY") ∷ (376, codes "MAIL.REPLY.ALL") ∷ (377, codes "MAIL.FORWARD") ∷
    (378, codes "MAIL.NEXT.LETTER") ∷ (379, codes "DATA.LABEL") ∷ (380, codes "INSERT.TITLE") ∷ (381, codes "FONT.PROPERTIES") ∷
    (382, codes "MACRO.OPTIONS") ∷ (383, codes "WORKBOOK.HIDE") ∷ (384, codes "WORKBOOK.UNHIDE") ∷ (385, codes "WORKBOOK.DELETE") ∷
    (386, codes "WORKBOOK.NAME") ∷ (388, codes "GALLERY.CUSTOM") ∷ (390, codes "ADD.CHART.AUTOFORMAT") ∷
    (391, codes "DELETE.CHART.AUTOFORMAT") ∷ (392, codes "CHART.ADD.DATA") ∷ (393, codes "AUTO.OUTLINE") ∷ (394, codes "TAB.ORDER") ∷ []

-- 395 to 808
unfoldable pub fourth_commands : List (ℕ × List ℕ)
fourth_commands =
    (395, codes "SHOW.DIALOG") ∷ (396, codes "SELECT.ALL") ∷ (397, codes "UNGROUP.SHEETS") ∷ (398, codes "SUBTOTAL.CREATE") ∷
    (399, codes "SUBTOTAL.REMOVE") ∷ (400, codes "RENAME.OBJECT") ∷ (412, codes "WORKBOOK.SCROLL") ∷ (413, codes "WORKBOOK.NEXT") ∷
    (414, codes "WORKBOOK.PREV") ∷ (415, codes "WORKBOOK.TAB.SPLIT") ∷ (416, codes "FULL.SCREEN") ∷ (417, codes "WORKBOOK.PROTECT") ∷
    (420, codes "SCROLLBAR.PROPERTIES") ∷ (421, codes "PIVOT.SHOW.PAGES") ∷ (422, codes "TEXT.TO.COLUMNS") ∷
    (423, codes "FORMAT.CHARTTYPE") ∷ (424, codes "LINK.FORMAT") ∷ (425, codes "TRACER.DISPLAY") ∷ (430, codes "TRACER.NAVIGATE") ∷
    (431, codes "TRACER.CLEAR") ∷ (432, codes "TRACER.ERROR") ∷ (433, codes "PIVOT.FIELD.GROUP") ∷ (434, codes "PIVOT.FIELD.UNGROUP") ∷
    (435, codes "CHECKBOX.PROPERTIES") ∷ (436, codes "LABEL.PROPERTIES") ∷ (437, codes "LISTBOX.PROPERTIES") ∷
    (438, codes "EDITBOX.PROPERTIES") ∷ (439, codes "PIVOT.REFRESH") ∷ (440, codes "LINK.COMBO") ∷ (441, codes "OPEN.TEXT") ∷
    (442, codes "HIDE.DIALOG") ∷ (443, codes "SET.DIALOG.FOCUS") ∷ (444, codes "ENABLE.OBJECT") ∷
    (445, codes "PUSHBUTTON.PROPERTIES") ∷ (446, codes "SET.DIALOG.DEFAULT") ∷ (447, codes "FILTER") ∷ (448, codes "FILTER.SHOW.ALL") ∷
    (449, codes "CLEAR.OUTLINE") ∷ (450, codes "FUNCTION.WIZARD") ∷ (451, codes "ADD.LIST.ITEM") ∷ (452, codes "SET.LIST.ITEM") ∷
    (453, codes "REMOVE.LIST.ITEM") ∷ (454, codes "SELECT.LIST.ITEM") ∷ (455, codes "SET.CONTROL.VALUE") ∷
    (456, codes "SAVE.COPY.AS") ∷ (458, codes "OPTIONS.LISTS.ADD") ∷ (459, codes "OPTIONS.LISTS.DELETE") ∷ (460, codes "SERIES.AXES") ∷
    (461, codes "SERIES.X") ∷ (462, codes "SERIES.Y") ∷ (463, codes "ERRORBAR.X") ∷ (464, codes "ERRORBAR.Y") ∷
    (465, codes "FORMAT.CHART") ∷ (466, codes "SERIES.ORDER") ∷ (467, codes "MAIL.LOGOFF") ∷ (468, codes "CLEAR.ROUTING.SLIP") ∷
    (469, codes "APP.ACTIVATE.MICROSOFT") ∷ (470, codes "MAIL.EDIT.MAILER") ∷ (471, codes "ON.SHEET") ∷ (472, codes "STANDARD.WIDTH") ∷
    (473, codes "SCENARIO.MERGE") ∷ (474, codes "SUMMARY.INFO") ∷ (475, codes "FIND.FILE") ∷ (476, codes "ACTIVE.CELL.FONT") ∷
    (477, codes "ENABLE.TIPWIZARD") ∷ (478, codes "VBA.MAKE.ADDIN") ∷ (480, codes "INSERTDATATABLE") ∷
    (481, codes "WORKGROUP.OPTIONS") ∷ (482, codes "MAIL.SEND.MAILER") ∷ (485, codes "AUTOCORRECT") ∷ (489, codes "POST.DOCUMENT") ∷
    (491, codes "PICKLIST") ∷ (493, codes "VIEW.SHOW") ∷ (494, codes "VIEW.DEFINE") ∷ (495, codes "VIEW.DELETE") ∷
    (509, codes "SHEET.BACKGROUND") ∷ (510, codes "INSERT.MAP.OBJECT") ∷ (511, codes "OPTIONS.MENONO") ∷ (517, codes "MSOCHECKS") ∷
    (518, codes "NORMAL") ∷ (519, codes "LAYOUT") ∷ (520, codes "RM.PRINT.AREA") ∷ (521, codes "CLEAR.PRINT.AREA") ∷
    (522, codes "ADD.PRINT.AREA") ∷ (523, codes "MOVE.BRK") ∷ (545, codes "HIDECURR.NOTE") ∷ (546, codes "HIDEALL.NOTES") ∷
    (547, codes "DELETE.NOTE") ∷ (548, codes "TRAVERSE.NOTES") ∷ (549, codes "ACTIVATE.NOTES") ∷ (620, codes "PROTECT.REVISIONS") ∷
    (621, codes "UNPROTECT.REVISIONS") ∷ (647, codes "OPTIONS.ME") ∷ (653, codes "WEB.PUBLISH") ∷ (667, codes "NEWWEBQUERY") ∷
    (673, codes "PIVOT.TABLE.CHART") ∷ (753, codes "OPTIONS.SAVE") ∷ (755, codes "OPTIONS.SPELL") ∷ (808, codes "HIDEALL.INKANNOTS") ∷
    []

abbrev pub command_name : ℕ → Option (List ℕ)
command_name index =
    if nat_le index 106 then name_in first_commands index else if nat_le index 224 then name_in second_commands index
    else if nat_le index 394 then name_in third_commands index else name_in fourth_commands index
